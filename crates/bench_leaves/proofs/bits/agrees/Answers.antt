-- `agrees` answers true only where the summary goes with the words: the test of each summary bit held, and past both ends all is 0.
use mathlib.Core.Path.{◌≡◌, ◌∙◌, refl, subst}
use mathlib.Core.Logic.{⊎_elim}
use Rattle.std.proofs.Common.{rules, ℕ, ◌<◌, ◌≤◌, ◌*◌, min, length, get_or, arith}
use Rattle.std.proofs.lemmas.Iterator.{cases_from_all, YieldsList-from_range}
use Rattle.std.proofs.lemmas.Bool.{MatchBool-at_true}
use Rattle.std.proofs.lemmas.List.FromFn.{length-range_with_len, get_or-range_with_len}
use lib.ListN.{get_or-eq_default}
use Rattle.std.proofs.lemmas.Bool.{cases_lt}
use Rattle.summary_bits.specs.Bits.{bit, bit_at}
use Rattle.summary_bits.specs.Summary.{Summary}
use Rattle.summary_bits.proofs.Words.{past_end}
use Rattle.bench_leaves.proofs.bits.agrees.Goals as goal

pub returns-then-fits : goal.returns-then-fits
unfolding Summary bit_at bit
returns-then-fits c = λ e.
    let ws = c.args.words.now in
    let ss = c.args.summary.now in
    let n = length ss * 64 in
    let Right = λ (j : ℕ). bit_at ss j ≡ min (get_or ws j 0) 1 in
    let tested = cases_from_all _ _ _ Right (λ (j : ℕ). Unit {0}) c.all.ensures.ran (YieldsList-from_range 0 n n refl (omega arith)) (λ j q k. search rules) (λ j q k. tt) in
    let every = MatchBool-at_true _ _ e tested in
    let inside : (k : ℕ) → k < n → Right k = λ k u. subst Right (omega (arith, get_or-range_with_len 0 n k 0 u)) (every k 0 (omega arith) (omega (arith, length-range_with_len 0 n))) in
    let fit = c.fits.ensures c.if-fits.true in
    let past : (k : ℕ) → n ≤ k → Right k = λ k u. past_end ss k (omega arith) ∙ omega (arith, fit.0.room, get_or-eq_default ws 0 {n = k} (omega (arith, fit.0.room))) in (
      fit.0,
      fit.1,
      λ k. ⊎_elim (inside k) (past k) (cases_lt k n),
    )
