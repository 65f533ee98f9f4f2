-- After i turns `out` is `written`, with i records in front, and the iterator has the others left, of which it takes as many as are planned.
use Rattle.std.proofs.Common.{◌≡◌, ◌+◌, drop}
use Rattle.std.specs.Iterator.Adapters.{enumerate_source, enumerate_count, take_source, take_count}
use Rattle.cursors.specs.Cursors.{left}
use Rattle.runs.specs.Answers.{written, records_in}
use Rattle.runs.proofs.fill.fill_runs.Given as goal

abbrev pub invariant-loop-i : goal.invariant-loop-i
invariant-loop-i l = record {
  can : (goal.iterator-loop-i).can_next l.i-iterator;
  finite : (goal.iterator-loop-i).is_finite l.i-iterator;
  within : enumerate_count l.i-iterator + take_count (enumerate_source l.i-iterator) ≡ l.count;
  left : left (take_source (enumerate_source l.i-iterator)) ≡ drop (enumerate_count l.i-iterator) (records_in l.fn.h l.items l.joined);
  out : l.out ≡ written (records_in l.fn.h l.items l.joined) (enumerate_count l.i-iterator) l.initial.out;
}
