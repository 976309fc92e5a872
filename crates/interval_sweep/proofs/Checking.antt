-- The verdict is the first refusal in number order; and where the sizes are fine the later checks may be asked, since the lengths are small; and what a
-- fine verdict lets the work count on. Assumes nothing.
use mathlib.Core.Path.{◌≡◌, sym}
use Prim.Native.Nat.{ℕ, ◌+◌, ◌≤◌}
use lib.ListN.{length}
use Rattle.std.specs.Prelude.{Ok, Err, IfOk}
use Rattle.base.specs.Verdicts.{Verdict, Fine, or_else}
use Rattle.base.specs.declared.Refusal.{Refusal}
use Rattle.base.proofs.Verdicts.{or_stop, or_skip, or_fine, lt_fine}
use Rattle.rules.specs.Limits.{query_limit, item_limit}
use Rattle.rules.specs.Checks.{interval_sizes, sweep_orders, sweep_table, sweep_needs, keys_need, interval_input}
use Rattle.rules.proofs.Accepted.{interval_accepted, sweep_fits, keys_fit}
use Rattle.sweep.specs.declared.Lengths.{Lengths}
use Rattle.interval_sweep.specs.declared.input.Input.{Input}
use Rattle.interval_sweep.specs.Given.{verdict_of, Passed}

module _ (i : Input) (lent : Lengths) (events : ℕ) where
  abbrev sizes : Verdict
  sizes = interval_sizes (length i.query.now) (length i.hashes.now) (length i.starts.now) (length i.ends.now) (length i.table.identities.now) (length i.table.uppers.now) i.settings.kmer

  abbrev orders : Verdict
  orders = sweep_orders i.query.now i.starts.now

  abbrev table : Verdict
  table = sweep_table (length i.query.now) (length i.table.identities.now)

  abbrev needs : Verdict
  needs = sweep_needs (length i.query.now + length i.hashes.now) lent.keys lent.counts lent.coords lent.words lent.summary

  abbrev more : Verdict
  more = keys_need (length i.hashes.now) events

  abbrev verdict : Verdict
  verdict = verdict_of i lent events

  pub refused_sizes : (r : Refusal) → sizes ≡ Err r → Err r ≡ verdict
  refused_sizes r e = or_stop _ (or_else needs more) r (sym (or_stop sizes _ r e))

  module _ (fine₁ : sizes ≡ Fine) where
    pub sizes_fine : (length i.query.now ≤ query_limit) × (length i.hashes.now ≤ item_limit) × (length i.starts.now ≤ item_limit)
    sizes_fine =
        let a = lt_fine query_limit (length i.query.now) _ _ fine₁ in
        let b = lt_fine item_limit (length i.hashes.now) _ _ a.1 in
        let c = lt_fine item_limit (length i.starts.now) _ _ b.1 in
        (a.0, b.0, c.0)

    pub refused_orders : (r : Refusal) → orders ≡ Err r → Err r ≡ verdict
    refused_orders r e = or_stop _ (or_else needs more) r (sym (or_skip sizes _ (Err r) fine₁ (or_stop orders table r e)))

    module _ (fine₂ : orders ≡ Fine) where
      pub refused_table : (r : Refusal) → table ≡ Err r → Err r ≡ verdict
      refused_table r e = or_stop _ (or_else needs more) r (sym (or_skip sizes _ (Err r) fine₁ (or_skip orders table (Err r) fine₂ (sym e))))

      module _ (fine₃ : table ≡ Fine) where
        left_to : (z : Verdict) → z ≡ or_else needs more → z ≡ verdict
        left_to z e = or_skip _ (or_else needs more) z (sym (or_skip sizes _ Fine fine₁ (or_skip orders table Fine fine₂ (sym fine₃)))) e

        pub refused_needs : (r : Refusal) → needs ≡ Err r → Err r ≡ verdict
        refused_needs r e = left_to (Err r) (or_stop needs more r e)

        pub left_to_events : (z : Verdict) → needs ≡ Fine → z ≡ more → z ≡ verdict
        left_to_events z fine₄ e = left_to z (or_skip needs more z fine₄ e)

  -- what a fine verdict tells
  fine_passed : verdict ≡ Fine → Passed i lent events
  unfolding interval_input
  fine_passed e =
      let v = or_fine _ _ e in
      let w = or_fine _ _ v.1 in
      let a = interval_accepted i.query.now i.hashes.now i.starts.now i.ends.now (length i.table.identities.now) (length i.table.uppers.now) i.settings.kmer v.0 in
      record { accepted = a.0; same_ends = a.1; fits = sweep_fits _ _ _ _ _ _ w.0; events_fit = keys_fit _ _ w.1 }

  pub passed : (z : Verdict) → z ≡ verdict → IfOk z (λ _. Passed i lent events)
  passed (Ok u) e = fine_passed (sym e)
  passed (Err r) e = tt
