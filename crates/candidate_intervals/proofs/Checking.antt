-- A fine verdict of the interval finder's checks tells that the hits passed each test. Assumes nothing.
use Prim.Native.Nat.{◌≤◌}
use mathlib.Core.Path.{◌≡◌, sym, ◌∙◌}
use mathlib.Core.List.{List, [], ◌∷◌}
use Prim.Native.Nat.{ℕ}
use lib.ListN.{length}
use Rattle.base.specs.Verdicts.{Verdict, Fine}
use Rattle.base.proofs.Verdicts.{or_fine}
use Rattle.rules.specs.Accepted.{FinderAccepted, FinderFits}
use Rattle.rules.specs.Calls.{FinderLent, finder_room_of}
use Rattle.rules.specs.Checks.{interval_finder_input}
use Rattle.rules.specs.Finder.{Finder}
use Rattle.rules.specs.Refusals.{interval_finder_verdict}
use Rattle.rules.proofs.Accepted.{interval_finder_accepted, finder_fits, end_keys_fit}
use Rattle.candidate_window.specs.Given.{verdict_of}
use Rattle.candidate_window.proofs.Checking.{interval_is}

-- what the hits and the lent lists then are
pub record Passed (f : Finder) (b : FinderLent) (closes : List ℕ) : Type 0 where
  pub accepted : FinderAccepted f.contigs f.starts f.groups f.minimum
  pub same_ends : length f.contigs ≡ length f.ends
  pub fits : FinderFits (length f.contigs) (length b.keys) (length b.contigs) (length b.starts) (length b.ends)
  pub closes_fit : length f.contigs ≤ length closes

module _ (f : Finder) (b : FinderLent) (closes : List ℕ) where
  abbrev verdict : Verdict
  verdict = verdict_of f.groups (length f.contigs) (length f.contigs ∷ length f.starts ∷ length f.ends ∷ []) f.minimum
      (length b.keys ∷ length b.contigs ∷ length b.starts ∷ length b.ends ∷ length closes ∷ [])

  pub verdict_is : verdict ≡ interval_finder_verdict f (finder_room_of b) (length closes)
  unfolding interval_finder_verdict interval_finder_input finder_room_of
  verdict_is = interval_is f.groups (length f.contigs) (length f.starts) (length f.ends) f.minimum (length b.keys) (length closes) (length b.contigs) (length b.starts) (length b.ends)

  pub passed : Fine ≡ verdict → Passed f b closes
  unfolding interval_finder_verdict finder_room_of
  passed e =
      let v = or_fine _ _ (sym (e ∙ verdict_is)) in
      let w = or_fine _ _ v.1 in
      let a = interval_finder_accepted f.contigs f.starts f.ends f.groups f.minimum v.0 in
      record {
        accepted = a.0;
        same_ends = a.1;
        fits = finder_fits (length f.contigs) (length b.keys) (length b.contigs) (length b.starts) (length b.ends) w.0;
        closes_fit = end_keys_fit (length f.contigs) (length closes) w.1;
      }
