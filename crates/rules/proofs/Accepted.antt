-- Where no check of a call refuses, its work has what it counts on: each test of a chain was passed, since a failed one would have refused.
use Prim.Native.Nat.{ℕ, zero, suc, ◌+◌, ◌*◌, ◌≤◌, ◌<◌}
use mathlib.Core.Path.{◌≡◌, refl}
use mathlib.Core.Bool.{Bool, true, false, ◌&&◌, and-eq-true_iff}
use mathlib.Core.List.{List, [], ◌∷◌}
use native.Mathlib.Omega.{arith}
use borrow.Author.Tests.{ltb-true, ltb-false, leb-true, eqb-true, eqb-false}
use lib.ListN.{length, get_or}
use lib.Dec.{ltb, leb, eqb}
use Rattle.base.specs.Pick.{pick}
use Rattle.base.specs.Verdicts.{Fine}
use Rattle.base.proofs.OrderChecks.{order_strict, order_asc}
use Rattle.base.proofs.Verdicts.{or_fine, stop_fine, skip_fine}
use Rattle.rules.specs.Lists.{member}
use Rattle.rules.specs.Limits.{insert_kind}
use Rattle.rules.specs.Checks.{first_missing, first_bad_step, minimizer_input, interval_input, sweep_needs, keys_need, script_input, script_members, script_needs, minimizer_finder_input, interval_finder_input, finder_needs, end_keys_need}
use Rattle.rules.specs.Accepted.{SweepAccepted, SweepFits, ScriptAccepted, ScriptFits, FinderAccepted, FinderFits}

-- above 0
positive : (n : ℕ) → eqb n 0 ≡ false → 0 < n
positive n e = let h : n ≡ 0 → ⊥ = eqb-false n 0 e in omega (arith, h)

pub minimizer_accepted : (query hashes starts : List ℕ) (identities uppers kmer window : ℕ) → minimizer_input query hashes starts identities uppers kmer window ≡ Fine → SweepAccepted query hashes starts identities uppers kmer × (0 < window)
unfolding minimizer_input
minimizer_accepted query hashes starts identities uppers kmer window e =
    let v = or_fine _ _ e in
    let w = or_fine _ _ v.1 in
    let s1 = stop_fine _ _ _ v.0 in
    let s2 = stop_fine _ _ _ s1.1 in
    let s3 = stop_fine _ _ _ s2.1 in
    let s4 = stop_fine _ _ _ s3.1 in
    let s5 = stop_fine _ _ _ s4.1 in
    let s6 = skip_fine _ _ _ s5.1 in
    let s7 = skip_fine _ _ _ s6.1 in
    let o1 = stop_fine _ _ _ w.0 in
    let o2 = stop_fine _ _ _ o1.1 in
    let t = stop_fine _ _ _ w.1 in (
      record {
        few_hashes = ltb-false _ _ s1.0;
        few_items = ltb-false _ _ s2.0;
        kmer_is = positive _ s4.0;
        same_starts = eqb-true _ _ s6.0;
        same_table = eqb-true _ _ s7.0;
        entries = ltb-false _ _ t.0;
        query_ascends = order_strict query (ltb-false _ _ o1.0);
        starts_ascend = order_asc starts (ltb-false _ _ o2.0);
      },
      positive _ s5.0,
    )

pub interval_accepted : (query hashes starts ends : List ℕ) (identities uppers kmer : ℕ) → interval_input query hashes starts ends identities uppers kmer ≡ Fine → SweepAccepted query hashes starts identities uppers kmer × (length hashes ≡ length ends)
unfolding interval_input
interval_accepted query hashes starts ends identities uppers kmer e =
    let v = or_fine _ _ e in
    let w = or_fine _ _ v.1 in
    let s1 = stop_fine _ _ _ v.0 in
    let s2 = stop_fine _ _ _ s1.1 in
    let s3 = stop_fine _ _ _ s2.1 in
    let s4 = stop_fine _ _ _ s3.1 in
    let s5 = stop_fine _ _ _ s4.1 in
    let s6 = skip_fine _ _ _ s5.1 in
    let s7 = skip_fine _ _ _ s6.1 in
    let s8 = skip_fine _ _ _ s7.1 in
    let o1 = stop_fine _ _ _ w.0 in
    let o2 = stop_fine _ _ _ o1.1 in
    let t = stop_fine _ _ _ w.1 in (
      record {
        few_hashes = ltb-false _ _ s1.0;
        few_items = ltb-false _ _ s2.0;
        kmer_is = positive _ s5.0;
        same_starts = eqb-true _ _ s6.0;
        same_table = eqb-true _ _ s8.0;
        entries = ltb-false _ _ t.0;
        query_ascends = order_strict query (ltb-false _ _ o1.0);
        starts_ascend = order_asc starts (ltb-false _ _ o2.0);
      },
      eqb-true _ _ s7.0,
    )

pub sweep_fits : (m hashes counts coords words summary : ℕ) → sweep_needs m hashes counts coords words summary ≡ Fine → SweepFits m hashes counts coords words summary
sweep_fits m hashes counts coords words summary e =
    let a = stop_fine _ _ _ e in
    let b = stop_fine _ _ _ a.1 in
    let c = stop_fine _ _ _ b.1 in
    let d = stop_fine _ _ _ c.1 in
    let f = stop_fine _ _ _ d.1 in
    record {
      hashes_fit = ltb-false _ _ a.0;
      counts_fit = ltb-false _ _ b.0;
      coords_fit = ltb-false _ _ c.0;
      words_fit = ltb-false _ _ d.0;
      summary_fits = ltb-false _ _ f.0;
    }

pub keys_fit : (items keys : ℕ) → keys_need items keys ≡ Fine → 2 * items ≤ keys
keys_fit items keys e = ltb-false _ _ (stop_fine _ _ _ e).0

pub script_accepted : (query coords indexes kinds : List ℕ) → script_input query coords indexes kinds ≡ Fine → ScriptAccepted query coords indexes kinds × (script_members query coords indexes kinds ≡ Fine)
unfolding script_input
script_accepted query coords indexes kinds e =
    let v = or_fine _ _ e in
    let w = or_fine _ _ v.1 in
    let s1 = stop_fine _ _ _ v.0 in
    let s2 = stop_fine _ _ _ s1.1 in
    let s3 = stop_fine _ _ _ s2.1 in
    let s4 = stop_fine _ _ _ s3.1 in
    let s5 = stop_fine _ _ _ s4.1 in
    let s6 = skip_fine _ _ _ s5.1 in
    let o1 = stop_fine _ _ _ w.0 in
    let o2 = stop_fine _ _ _ o1.1 in
    let o3 = stop_fine _ _ _ o2.1 in (
      record {
        few_hashes = ltb-false _ _ s1.0;
        few_coords = ltb-false _ _ s2.0;
        some_coord = positive _ s3.0;
        few_steps = ltb-false _ _ s4.0;
        same_steps = eqb-true _ _ s6.0;
        some_hash = positive _ o1.0;
        query_ascends = order_strict query (ltb-false _ _ o2.0);
        coords_ascend = order_strict coords (ltb-false _ _ o3.0);
      },
      w.1,
    )

-- an index that goes on past a place has passed its test there
past : (b : Bool) (n m : ℕ) → suc m ≤ pick b (1 + n) 0 → (b ≡ true) × (m ≤ n)
unfolding pick
past true n m h = (refl, omega arith)
past false n m h = absurd (omega arith)

-- every query hash is a coordinate
hashes_at : (coords query : List ℕ) → length query ≤ first_missing coords query → (i : ℕ) → i < length query → member (get_or query i 0) coords ≡ true
unfolding first_missing
hashes_at coords [] h i l = absurd (omega arith)
hashes_at coords (x ∷ xs) h zero l = (past (member x coords) (first_missing coords xs) (length xs) h).0
hashes_at coords (x ∷ xs) h (suc i) l =
    hashes_at coords xs (past (member x coords) (first_missing coords xs) (length xs) h).1 i (omega arith)

-- every step's index lies in the coordinates, and its kind is delete or insert
steps_at : (n : ℕ) (indexes kinds : List ℕ) → length indexes ≤ first_bad_step n indexes kinds → (j : ℕ) → j < length indexes → (get_or indexes j 0 < n) × (get_or kinds j 0 ≤ insert_kind)
unfolding first_bad_step
steps_at n [] kinds h j l = absurd (omega arith)
steps_at n (i ∷ is) [] h j l = absurd (omega arith)
steps_at n (i ∷ is) (k ∷ ks) h zero l =
    let t = (and-eq-true_iff _ _).0 (past (ltb i n && leb k insert_kind) (first_bad_step n is ks) (length is) h).0 in
    (ltb-true _ _ t.0, leb-true _ _ t.1)
steps_at n (i ∷ is) (k ∷ ks) h (suc j) l =
    steps_at n is ks (past (ltb i n && leb k insert_kind) (first_bad_step n is ks) (length is) h).1 j (omega arith)

-- 6 of a script
module _ (query coords indexes kinds : List ℕ) (e : script_members query coords indexes kinds ≡ Fine) where
  pub script_hash : (i : ℕ) → i < length query → member (get_or query i 0) coords ≡ true
  script_hash = hashes_at coords query (ltb-false _ _ (stop_fine _ _ _ e).0)

  pub script_step : (j : ℕ) → j < length indexes → (get_or indexes j 0 < length coords) × (get_or kinds j 0 ≤ insert_kind)
  script_step = steps_at (length coords) indexes kinds (ltb-false _ _ (stop_fine _ _ _ (stop_fine _ _ _ e).1).0)

pub script_fits : (m steps counts words summary pivots shareds : ℕ) → script_needs m steps counts words summary pivots shareds ≡ Fine → ScriptFits m steps counts words summary pivots shareds
script_fits m steps counts words summary pivots shareds e =
    let a = stop_fine _ _ _ e in
    let b = stop_fine _ _ _ a.1 in
    let c = stop_fine _ _ _ b.1 in
    let d = stop_fine _ _ _ c.1 in
    let f = stop_fine _ _ _ d.1 in
    record {
      counts_fit = ltb-false _ _ a.0;
      words_fit = ltb-false _ _ b.0;
      summary_fits = ltb-false _ _ c.0;
      pivots_fit = ltb-false _ _ d.0;
      shareds_fit = ltb-false _ _ f.0;
    }

pub minimizer_finder_accepted : (contigs starts groups : List ℕ) (minimum : ℕ) → minimizer_finder_input contigs starts groups minimum ≡ Fine → FinderAccepted contigs starts groups minimum
unfolding minimizer_finder_input
minimizer_finder_accepted contigs starts groups minimum e =
    let v = or_fine _ _ e in
    let s1 = stop_fine _ _ _ v.0 in
    let s2 = stop_fine _ _ _ s1.1 in
    let s3 = stop_fine _ _ _ s2.1 in
    let s4 = stop_fine _ _ _ s3.1 in
    let s5 = stop_fine _ _ _ s4.1 in
    let l1 = skip_fine _ _ _ v.1 in
    let l2 = skip_fine _ _ _ l1.1 in
    record {
      few_hits = ltb-false _ _ s1.0;
      few_groups = ltb-false _ _ s3.0;
      minimum_is = positive _ s4.0;
      minimum_fits = ltb-false _ _ s5.0;
      same_starts = eqb-true _ _ l1.0;
      groups_sum = eqb-true _ _ l2.0;
    }

pub interval_finder_accepted : (contigs starts ends groups : List ℕ) (minimum : ℕ) → interval_finder_input contigs starts ends groups minimum ≡ Fine → FinderAccepted contigs starts groups minimum × (length contigs ≡ length ends)
unfolding interval_finder_input
interval_finder_accepted contigs starts ends groups minimum e =
    let v = or_fine _ _ e in
    let s1 = stop_fine _ _ _ v.0 in
    let s2 = stop_fine _ _ _ s1.1 in
    let s3 = stop_fine _ _ _ s2.1 in
    let s4 = stop_fine _ _ _ s3.1 in
    let s5 = stop_fine _ _ _ s4.1 in
    let s6 = stop_fine _ _ _ s5.1 in
    let l1 = skip_fine _ _ _ v.1 in
    let l2 = skip_fine _ _ _ l1.1 in
    let l3 = skip_fine _ _ _ l2.1 in (
      record {
        few_hits = ltb-false _ _ s1.0;
        few_groups = ltb-false _ _ s4.0;
        minimum_is = positive _ s5.0;
        minimum_fits = ltb-false _ _ s6.0;
        same_starts = eqb-true _ _ l1.0;
        groups_sum = eqb-true _ _ l3.0;
      },
      eqb-true _ _ l2.0,
    )

pub finder_fits : (hits keys contigs starts ends : ℕ) → finder_needs hits keys contigs starts ends ≡ Fine → FinderFits hits keys contigs starts ends
finder_fits hits keys contigs starts ends e =
    let a = stop_fine _ _ _ e in
    let b = stop_fine _ _ _ a.1 in
    let c = stop_fine _ _ _ b.1 in
    let d = stop_fine _ _ _ c.1 in
    record {
      keys_fit = ltb-false _ _ a.0;
      contigs_fit = ltb-false _ _ b.0;
      starts_fit = ltb-false _ _ c.0;
      ends_fit = ltb-false _ _ d.0;
    }

pub end_keys_fit : (hits end_keys : ℕ) → end_keys_need hits end_keys ≡ Fine → hits ≤ end_keys
end_keys_fit hits end_keys e = ltb-false _ _ (stop_fine _ _ _ e).0
