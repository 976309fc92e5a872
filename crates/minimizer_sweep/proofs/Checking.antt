-- The verdict is the first refusal in number order; and where the sizes are fine the later checks may be asked, since the lengths are small. Assumes nothing.
use mathlib.Core.Path.{◌≡◌, refl, sym, ◌∙◌}
use mathlib.Core.List.{List}
use Prim.Native.Nat.{ℕ, ◌+◌, ◌≤◌}
use lib.ListN.{length}
use Rattle.std.specs.Prelude.{Err}
use Rattle.base.specs.Verdicts.{Verdict, Fine, or_else}
use Rattle.base.specs.declared.Refusal.{Refusal}
use Rattle.base.proofs.Verdicts.{or_stop, or_skip, lt_fine}
use Rattle.rules.specs.Limits.{query_limit, item_limit}
use Rattle.rules.specs.Checks.{minimizer_sizes, sweep_orders, sweep_table, sweep_needs, minimizer_input}
use Rattle.minimizer_sweep.specs.Given.{verdict_of}

pub sizes_fine : (query hashes starts identities uppers kmer window : ℕ) → minimizer_sizes query hashes starts identities uppers kmer window ≡ Fine
    → (query ≤ query_limit) × (hashes ≤ item_limit) × (starts ≤ item_limit)
sizes_fine query hashes starts identities uppers kmer window e =
    let a = lt_fine query_limit query _ _ e in
    let b = lt_fine item_limit hashes _ _ a.1 in
    let c = lt_fine item_limit starts _ _ b.1 in
    (a.0, b.0, c.0)

module _ (query hashes starts : List ℕ) (identities uppers kmer window keys counts coords words summary : ℕ) where
  abbrev sizes : Verdict
  sizes = minimizer_sizes (length query) (length hashes) (length starts) identities uppers kmer window

  abbrev orders : Verdict
  orders = sweep_orders query starts

  abbrev table : Verdict
  table = sweep_table (length query) identities

  abbrev needs : Verdict
  needs = sweep_needs (length query + length hashes) keys counts coords words summary

  abbrev verdict : Verdict
  verdict = verdict_of query hashes starts identities uppers kmer window keys counts coords words summary

  verdict_is : verdict ≡ or_else (or_else sizes (or_else orders table)) needs
  unfolding minimizer_input
  verdict_is = refl

  pub refused_sizes : (r : Refusal) → sizes ≡ Err r → Err r ≡ verdict
  refused_sizes r e = or_stop _ needs r (sym (or_stop sizes _ r e)) ∙ sym verdict_is

  module _ (fine₁ : sizes ≡ Fine) where
    pub refused_orders : (r : Refusal) → orders ≡ Err r → Err r ≡ verdict
    refused_orders r e = or_stop _ needs r (sym (or_skip sizes _ (Err r) fine₁ (or_stop orders table r e))) ∙ sym verdict_is

    module _ (fine₂ : orders ≡ Fine) where
      pub refused_table : (r : Refusal) → table ≡ Err r → Err r ≡ verdict
      refused_table r e = or_stop _ needs r (sym (or_skip sizes _ (Err r) fine₁ (or_skip orders table (Err r) fine₂ (sym e)))) ∙ sym verdict_is

      pub left_to_needs : (z : Verdict) → table ≡ Fine → z ≡ needs → z ≡ verdict
      left_to_needs z fine₃ e = or_skip _ needs z (sym (or_skip sizes _ Fine fine₁ (or_skip orders table Fine fine₂ (sym fine₃)))) e ∙ sym verdict_is
