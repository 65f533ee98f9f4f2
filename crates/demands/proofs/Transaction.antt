-- From `begin` to `event`, over the sheet in memory and any steps between, refused ones among them. Assumes nothing.
use Prim.Native.Nat.{ℕ, ◌≤◌, ◌<◌}
use Rattle.std.proofs.Common.{rules}
use native.Mathlib.Omega.{arith}
use mathlib.Core.Path.{◌≡◌, refl, sym, ap, subst, ◌∙◌}
use mathlib.Core.Bool.{Bool, true, false, cond}
use mathlib.Core.List.{List, ◌∷◌, map}
use lib.ListN.{length, get_or, drop}
use Rattle.rules.specs.Reading.{live, before, cells, seen_glyphs, read}
use Rattle.rules.specs.Event.{event, told_units}
use Rattle.rules.specs.Scripts.{Tells}
use Rattle.rules.specs.Calls.{Sheet, begin_now, call}
use Rattle.rules.specs.Rulings.{SoundSheet}
use Rattle.rules.specs.PieceParts.{after as ruled_after}
use Rattle.laws.proofs.Transaction.{Edits, FineCalls, edits_fine, transaction, transaction-tells}
use Rattle.layout.proofs.Soundness.{sound-parts}
use Rattle.layout.proofs.Models.{model-sound}
use Rattle.sheet.proofs.Theorems.{leaves-sound}
use Rattle.events.specs.Told.{Ops, encoded, texts}
use Rattle.events.specs.Given.{Given, refusal, refused, gives, fits_in, given, at_front}
use Rattle.events.proofs.Events.{walkable, event-room}
use Rattle.demands.specs.Steps.{State, sound, model, Step, does, after, begun, calls_of}
use Rattle.demands.specs.Written.{Wrote, wrote, read_back, spelled_cell, spelled_op, page}
use Rattle.demands.specs.Demands.{event_of, read_event, Replays}
use Rattle.demands.proofs.Bridge.{call-model, after-sound, after-model}
use Rattle.demands.proofs.Fair.{event_fair}
use Rattle.demands.proofs.Back.{event-back}
use Rattle.demands.proofs.Pages.{key_in_lem, read-spelled, cells-alike, units-stay}

-- ---- what `event` leaves of a sound sheet
-- both buffers from what is given
abbrev wrote_by : Given → List ℕ → List ℕ → Wrote
wrote_by g w o = record { answer = g.answer; words = at_front g.words w; units = at_front g.units o }

module _ (k : State) (ok : sound k ≡ true) (w o : List ℕ) where
  given_is : given before live k.head k.words k.units (length w) (length o) ≡ cond (fits_in (length w) (length o) (event_of k)) (gives k.units (event_of k)) (refused 8)
  unfolding given
  given_is = rw ok

  wrote-is : wrote k w o ≡ wrote_by (cond (fits_in (length w) (length o) (event_of k)) (gives k.units (event_of k)) (refused 8)) w o
  wrote-is = ap (λ (g : Given). wrote_by g w o) given_is

  wrote-number : (wrote k w o).answer.refusal ≡ cond (fits_in (length w) (length o) (event_of k)) 0 8
  wrote-number = grind (rules, wrote-is)

  -- either way, with its number
  wrote-cases : (P : ℕ → Wrote → Type 0) → P 0 (wrote_by (gives k.units (event_of k)) w o) → P 8 (record { answer = refusal 8; words = w; units = o }) → P (wrote k w o).answer.refusal (wrote k w o)
  wrote-cases P done out = subst (λ (x : Wrote). P x.answer.refusal x) (sym wrote-is) (go (fits_in (length w) (length o) (event_of k)))
    where
      go : (b : Bool) → P (wrote_by (cond b (gives k.units (event_of k)) (refused 8)) w o).answer.refusal (wrote_by (cond b (gives k.units (event_of k)) (refused 8)) w o)
      go true = done
      go false = out

  wrote_kept : (wrote k w o).answer.refusal ≡ 8 → wrote k w o ≡ record { answer = refusal 8; words = w; units = o }
  wrote_kept = wrote-cases (λ n x. n ≡ 8 → x ≡ record { answer = refusal 8; words = w; units = o }) (λ e. absurd (omega arith)) (λ e. refl)

  pub wrote-room : 16384 ≤ length w → 16384 ≤ length o → (wrote k w o).answer.refusal ≡ 0
  wrote-room a b = ap (λ (g : Given). g.answer.refusal) (event-room k.head k.words k.units (length w) (length o) ok a b)

  wrote-counts : (wrote k w o).answer.refusal ≡ 0 → ((wrote k w o).answer.ops ≡ length (event_of k)) × ((wrote k w o).answer.units ≡ told_units (event_of k))
  wrote-counts = wrote-cases (λ n x. n ≡ 0 → (x.answer.ops ≡ length (event_of k)) × (x.answer.units ≡ told_units (event_of k))) (λ e. (refl, refl)) (λ e. absurd (omega arith))

  pub wrote-back : (wrote k w o).answer.refusal ≡ 0 → read_event k w o ≡ map (spelled_op k.units) (event_of k)
  wrote-back =
      let f = event_fair k.head.units before live (model k).items (walkable k.head k.words k.units ok).fit in
      wrote-cases (λ n x. n ≡ 0 → read_back 0 x.answer.ops x.words x.units ≡ map (spelled_op k.units) (event_of k))
      (λ e. event-back k.units (drop (length (encoded (event_of k))) w) (drop (length (texts k.units (event_of k))) o) (event_of k) f)
      (λ e. absurd (omega arith))

-- ---- the transaction
module _ (s : State) (ok : sound s ≡ true) (ts : List Step) (d : Edits (calls_of ts)) where
  abbrev end : State
  end = after ts (begun s)

  fine : FineCalls (calls_of ts)
  fine = edits_fine (calls_of ts) d

  begun-sound : sound (begun s) ≡ true
  begun-sound = leaves-sound begin_now s.head s.words s.units ok tt

  end-sound : sound end ≡ true
  end-sound = after-sound ts fine (begun s) begun-sound

  end-model : model end ≡ ruled_after (calls_of ts) (call begin_now (model s)).sheet
  end-model = after-model ts fine (begun s) begun-sound ∙ ap (ruled_after (calls_of ts)) (call-model begin_now tt s ok)

  -- the units of the beginning lie where they lay
  stays : (p : ℕ) → p < s.head.units → get_or end.units p 0 ≡ get_or s.units p 0
  stays p l = units-stay (does begin_now ∷ ts) (tt, fine) s ok p l

  start : SoundSheet (model s)
  start = model-sound s.head s.words s.units (sound-parts s.head s.words s.units ok)

  page-is : (j : ℕ) → page j s ≡ map (spelled_cell end.units) (cells live j 0 (model s).items)
  page-is j = sym (cells-alike end.units s.units s.head.units stays live j 0 (model s).items (walkable s.head s.words s.units ok).fit)

  read-now : (j : ℕ) → j < 16 → read j (event_of end) (cells live j 0 (model s).items) ≡ cells live j 0 (model end).items
  read-now j l =
      subst (λ (x : Sheet). read j (event before live x.items) (cells live j 0 (model s).items) ≡ cells live j 0 x.items) (sym end-model)
      (transaction (calls_of ts) d (model s) start j (key_in_lem j l))

  -- The third demand.
  pub begin-to-event : (w o : List ℕ) → Replays s (after ts (begun s)) w o
  begin-to-event w o = record {
    sound = end-sound;
    number = wrote-number end end-sound w o;
    kept = wrote_kept end end-sound w o;
    room = wrote-room end end-sound w o;
    counts = wrote-counts end end-sound w o;
    back = wrote-back end end-sound w o;
    replays = λ z j l.
        ap (λ (x : Ops). read j x (page j s)) (wrote-back end end-sound w o z)
        ∙ ap (read j (map (spelled_op end.units) (event_of end))) (page-is j)
        ∙ read-spelled end.units j (event_of end) (cells live j 0 (model s).items)
        ∙ ap (map (spelled_cell end.units)) (read-now j l);
    tells = subst (λ (x : Sheet). Tells before live x.items (seen_glyphs (model s).items)) (sym end-model) (transaction-tells (calls_of ts) d (model s) start);
  }
