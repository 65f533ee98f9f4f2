-- After i turns what the iterator has left, stored over what is written, is all that there is to write; as many runs are taken of it as are planned.
use Rattle.std.proofs.Common.{◌≡◌, ◌+◌, ◌*◌, length}
use Rattle.std.proofs.lemmas.List.Edits.{sets}
use Rattle.std.specs.Iterator.Adapters.{enumerate_source, enumerate_count, take_source, take_count}
use Rattle.cursors.specs.Cursors.{left}
use Rattle.runs.specs.Answers.{records_in}
use Rattle.ffi.specs.Answers.{runs_words}
use Rattle.ffi.proofs.listing.write_runs.Given as goal

abbrev pub invariant-loop-i : goal.invariant-loop-i
invariant-loop-i l = record {
  can : (goal.iterator-loop-i).can_next l.i-iterator;
  finite : (goal.iterator-loop-i).is_finite l.i-iterator;
  within : enumerate_count l.i-iterator + take_count (enumerate_source l.i-iterator) ≡ l.count;
  rest : enumerate_count l.i-iterator + length (left (take_source (enumerate_source l.i-iterator))) ≡ length (records_in l.fn.h l.items l.joined);
  whole : sets l.ops (enumerate_count l.i-iterator * 8) (runs_words (left (take_source (enumerate_source l.i-iterator)))) ≡ sets l.initial.ops 0 (runs_words (records_in l.fn.h l.items l.joined));
}
