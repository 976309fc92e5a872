-- The finders as C sees them.
use Rattle.std.specs.Prelude.{◌≡◌, List, ℕ, length, get_or}
use Rattle.rules.specs.Finder.{Finder, minimizer_found, interval_found}
use Rattle.rules.specs.Refusals.{minimizer_finder_verdict, minimizer_finder_call, interval_finder_verdict, interval_finder_call, work_left}
use Rattle.rules.specs.Told.{Told, told_finder}
use Rattle.rules.specs.Calls.{FinderLent, finder_room_of, FinderLeft}
use Rattle.exports.specs.declared.finders.FinderOut.{FinderOut}

-- what is told, field by field: the number, the place, and the two values of a finder that was done, else 0
unfoldable pub finder_out_of : Told → FinderOut
finder_out_of t = record { number = t.number; place = t.place; count = get_or t.values 0 0; hits = get_or t.values 1 0 }

-- the promise of the minimizer finder, its answer as that struct
pub record MinimizerFinderExported (f : Finder) (r : FinderOut) (before after : FinderLent) : Type 0 where
  pub answer : r ≡ finder_out_of (told_finder (minimizer_finder_call f (finder_room_of before)))
  pub left : FinderLeft (minimizer_finder_verdict f (finder_room_of before)) (length f.contigs) (minimizer_found f) before after

-- that of the interval finder, and the keys of ends
pub record IntervalFinderExported (f : Finder) (r : FinderOut) (before after : FinderLent) (end_keys end_keys' : List ℕ) : Type 0 where
  pub answer : r ≡ finder_out_of (told_finder (interval_finder_call f (finder_room_of before) (length end_keys)))
  pub left : FinderLeft (interval_finder_verdict f (finder_room_of before) (length end_keys)) (length f.contigs) (interval_found f) before after
  pub end_keys_left : end_keys' ≡ work_left (interval_finder_verdict f (finder_room_of before) (length end_keys)) (length f.contigs) end_keys
