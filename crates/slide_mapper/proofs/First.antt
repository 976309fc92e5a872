-- The state before the first item: once the query's bits are stored, a word at a time, the union is the query, and its last bit has all the others before it.
use mathlib.Core.Path.{◌≡◌, refl, sym, ap, ◌∙◌}
use mathlib.Core.Logic.{⊎_elim, ◌≢◌}
use mathlib.Core.List.{List}
use Prim.Native.Nat.{ℕ, ◌+◌, ◌-◌, ◌*◌, ◌/◌, ◌%◌, ◌^◌, ◌≤◌, ◌<◌, min}
use native.Mathlib.Omega.{arith}
use lib.Bits.{bit_or}
use lib.Dec.{eqb}
use lib.ListN.{length, get_or, set, length-set, get_or-eq_default}
use lib.Seq.{get_or-set_other}
use Rattle.base.specs.Pick.{pick}
use Rattle.base.specs.Nearest.{LastBelow, NoneBelow}
use Rattle.base.specs.Counting.{count}
use Rattle.base.proofs.Lists.{zeros_at}
use Rattle.std.proofs.lemmas.Bool.{cases_lt, cases_eq}
use Rattle.base.proofs.Counting.{count-zero, count_next, count_same, count_none}
use Rattle.rules.specs.Ranks.{either, both, mark, has, size}
use Rattle.summary_bits.specs.Bits.{bit, bit_at, with_on}
use Rattle.summary_bits.specs.Summary.{Fits, Summary}
use Rattle.summary_bits.proofs.Number.{bit-zero, bit_of_zero, bit_or_lem, bit-mod, bit_shl, bit_shl_low, bit_above}
use Rattle.summary_bits.proofs.Words.{bit_at-zero, no_bits}
use Rattle.summary_bits.proofs.Stored.{stored_here, stored_elsewhere, stored_length, stored_summary}
use Rattle.slide_mapper.specs.State.{flags_of, counts_of, slide_of, Gathered, Ready, Blank}
use Rattle.slide_mapper.proofs.State.{mark_at, has_at, counts_length, flags_length}

-- ---- one word

-- a number moved up by s, within a word: below s nothing, from s on its own bits, past the word nothing
shifted_low : (y s b : ℕ) → b < s → s ≤ 64 → bit (y * 2 ^ s % 2 ^ 64) b ≡ 0
shifted_low y s b l m = bit-mod 64 (y * 2 ^ s) b (omega arith) ∙ bit_shl_low y s b l

shifted : (y s b : ℕ) → s + b < 64 → bit (y * 2 ^ s % 2 ^ 64) (s + b) ≡ bit y b
shifted y s b l = bit-mod 64 (y * 2 ^ s) (s + b) l ∙ bit_shl y s b

shifted_out : (y s b : ℕ) → 64 ≤ b → bit (y * 2 ^ s % 2 ^ 64) b ≡ 0
shifted_out y s b l = bit_above (y * 2 ^ s % 2 ^ 64) 64 b (omega arith) l

pub gathered_none : (cs : List ℕ) (from : ℕ) → Gathered cs from from 0
gathered_none cs from = record { inside = λ b l. absurd (omega arith); past = λ b l. bit_of_zero b }

pub gathered_one : (cs : List ℕ) (i j : ℕ) → j ≡ i + 1 → get_or cs i 0 ≤ 1 → Gathered cs i j (get_or cs i 0)
gathered_one cs i j e h = record {
  inside = λ b l.
      let z : b ≡ 0 = omega arith in
      omega (arith, h, ap (bit (get_or cs i 0)) z, bit-zero (get_or cs i 0), ap (λ (n : ℕ). get_or cs n 0) (let e : i + b ≡ i = omega arith in e));
  past = λ b l. bit_above (get_or cs i 0) 1 b (omega arith) (omega arith);
}

-- two stretches that follow each other
pub gathered_more : {cs : List ℕ} {from i j x y : ℕ} (s : ℕ) → Gathered cs from i x → Gathered cs i j y → i ≡ from + s → i ≤ j → j ≤ from + 64
    → Gathered cs from j (bit_or x (y * 2 ^ s % 2 ^ 64))
gathered_more {cs} {from} {i} {j} {x} {y} s g h e l m = record {
  inside = λ b k.
      ⊎_elim (λ (u : b < s). omega (arith, bit_or_lem x z b, g.inside b (omega arith), shifted_low y s b u (omega arith)))
      (λ (u : s ≤ b).
      omega (arith, bit_or_lem x z b, g.past b (omega arith), ap (bit z) (up b u), shifted y s (b - s) (omega arith), h.inside (b - s) (omega arith), ap (λ (n : ℕ). get_or cs n 0) (place b u)))
      (cases_lt b s);
  past = λ b k.
      ⊎_elim
      (λ (u : b < 64). omega (arith, bit_or_lem x z b, g.past b (omega arith), ap (bit z) (up b (omega arith)), shifted y s (b - s) (omega arith), h.past (b - s) (omega arith)))
      (λ (u : 64 ≤ b). omega (arith, bit_or_lem x z b, g.past b (omega arith), shifted_out y s b u)) (cases_lt b 64);
}
  where
    z : ℕ
    z = y * 2 ^ s % 2 ^ 64

    up : (b : ℕ) → s ≤ b → b ≡ s + (b - s)
    up b u = omega arith

    place : (b : ℕ) → s ≤ b → i + (b - s) ≡ from + b
    place b u = omega arith

-- ---- the words before w hold their flags as bits, and the others are 0

pub record Filled (cs ws₀ ss₀ ws ss : List ℕ) (w : ℕ) : Type 0 where
  pub low : w * 64 < length cs + 64
  pub done : (j : ℕ) → j < w * 64 → bit_at ws j ≡ get_or cs j 0
  pub rest : (v : ℕ) → w ≤ v → get_or ws v 0 ≡ 0
  pub summary : Summary ws ss
  pub words_len : length ws ≡ length ws₀
  pub summary_len : length ss ≡ length ss₀

-- once all words are stored
pub record Marked (cs ws₀ ss₀ ws ss : List ℕ) : Type 0 where
  pub done : (j : ℕ) → j < length cs → bit_at ws j ≡ get_or cs j 0
  pub rest : (j : ℕ) → length cs ≤ j → bit_at ws j ≡ 0
  pub summary : Summary ws ss
  pub words_len : length ws ≡ length ws₀
  pub summary_len : length ss ≡ length ss₀

module _ {cs ws₀ ss₀ : List ℕ} (b : Blank cs ws₀ ss₀) where
  fits_kept : {ws ss : List ℕ} → length ws ≡ length ws₀ → length ss ≡ length ss₀ → Fits ws ss
  fits_kept e f = record { room = omega (arith, b.fits.room, e, f); small = omega (arith, b.fits.small, e) }

  pub filled_none : ((v : ℕ) → get_or ws₀ v 0 < 2 ^ 64) → Filled cs ws₀ ss₀ ws₀ ss₀ 0
  filled_none h = record {
    low = omega arith;
    done = λ j l. absurd (omega arith);
    rest = λ v l. ap (λ (x : List ℕ). get_or x v 0) (no_bits ws₀ h b.words) ∙ zeros_at (length ws₀) v;
    summary = b.summary;
    words_len = refl;
    summary_len = refl;
  }

  module _ {ws ss : List ℕ} {w : ℕ} (m : Filled cs ws₀ ss₀ ws ss w) where
    pub filled_fits : Fits ws ss
    filled_fits = fits_kept m.words_len m.summary_len

    pub filled_in : w * 64 < length cs → w < length ws
    filled_in l = omega (arith, b.room, m.words_len)

    pub filled_more : (l : w * 64 < length cs) (end x : ℕ) → end ≡ min (w * 64 + 64) (length cs) → Gathered cs (w * 64) end x
        → (vs ts : List ℕ) → vs ≡ set ws w x → ts ≡ pick (eqb x 0) ss (with_on ss w) → Filled cs ws₀ ss₀ vs ts (w + 1)
    filled_more l end x e g vs ts p q =
        rw (p, q)
        (record {
          low = omega arith;
          done = done_more;
          rest = λ v k. get_or-set_other ws w v x 0 (omega arith) ∙ m.rest v (omega arith);
          summary = stored_summary ws ss w x (filled_in l) (omega (arith, filled_in l, filled_fits.room)) (m.rest w (omega arith)) m.summary;
          words_len = length-set ws w x ∙ m.words_len;
          summary_len = stored_length ss w x ∙ m.summary_len;
        })
      where
        here : (j : ℕ) → j / 64 ≡ w → bit x (j % 64) ≡ get_or cs j 0
        here j k =
            let back : w * 64 + j % 64 ≡ j = omega (arith, k) in
            ⊎_elim (λ (a : j < length cs). g.inside (j % 64) (omega (arith, e, back)) ∙ ap (λ (n : ℕ). get_or cs n 0) back)
            (λ (a : length cs ≤ j). g.past (j % 64) (omega (arith, e, back)) ∙ sym (get_or-eq_default cs 0 a)) (cases_lt j (length cs))

        done_more : (j : ℕ) → j < (w + 1) * 64 → bit_at (set ws w x) j ≡ get_or cs j 0
        done_more j k =
            ⊎_elim (λ (a : j / 64 ≡ w). stored_here ws w x j (filled_in l) a ∙ here j a)
            (λ (a : j / 64 ≢ w). stored_elsewhere ws w x j a ∙ m.done j (omega arith)) (cases_eq (j / 64) w)

    pub filled_all : length cs ≤ w * 64 → Marked cs ws₀ ss₀ ws ss
    filled_all l = record {
      done = λ j k. m.done j (omega arith);
      rest = λ j k.
          ⊎_elim (λ (a : j < w * 64). m.done j a ∙ get_or-eq_default cs 0 k) (λ (a : w * 64 ≤ j). bit_at-zero ws j (m.rest (j / 64) (omega arith))) (cases_lt j (w * 64));
      summary = m.summary;
      words_len = m.words_len;
      summary_len = m.summary_len;
    }

  -- all are marked
  module _ {ws ss : List ℕ} (m : Marked cs ws₀ ss₀ ws ss) where
    none_active : (j : ℕ) → has (counts_of cs) j ≡ 0
    none_active j = omega (arith, has_at cs j, b.flags j)

    flag_is : (j : ℕ) → mark (flags_of cs) j ≡ get_or cs j 0
    flag_is j = omega (arith, mark_at cs j, b.flags j)

    bits_are : (j : ℕ) → bit_at ws j ≡ either (mark (flags_of cs)) (has (counts_of cs)) j
    bits_are j =
        ⊎_elim (λ (l : j < length cs). omega (arith, m.done j l, flag_is j, none_active j))
        (λ (l : length cs ≤ j). omega (arith, m.rest j l, flag_is j, get_or-eq_default cs 0 l, none_active j)) (cases_lt j (length cs))

    same_size : (n : ℕ) → count (bit_at ws) n ≡ count (mark (flags_of cs)) n
    same_size n = count_same (mark (flags_of cs)) (bit_at ws) n (λ j. omega (arith, bits_are j, none_active j))

    pub begin_asks : Fits ws ss × Summary ws ss × (length cs ≤ length ws * 64)
    begin_asks = (fits_kept m.words_len m.summary_len, m.summary, omega (arith, b.room, m.words_len))

    pub begin_some : NoneBelow (bit_at ws) (length cs) → ⊥
    unfolding size
    begin_some none =
        omega (arith, b.some, flags_length cs, ap (count (mark (flags_of cs))) (flags_length cs), same_size (length cs), count_none (bit_at ws) 0 (length cs) (omega arith) (λ j l n. none j n), count-zero (bit_at ws))

    pub begin_ready : (q : ℕ) → LastBelow (bit_at ws) (length cs) q → Ready cs ws ss (record { pivot = record { 0 = q }; shared = 0 })
    unfolding slide_of size
    begin_ready q a = record {
      held = record {
        small = b.small;
        room = omega (arith, b.room, m.words_len);
        fits = fits_kept m.words_len m.summary_len;
        bits = bits_are;
        summary = m.summary;
      };
      slid = record {
        lens = counts_length cs ∙ sym (flags_length cs);
        at = record {
          on = sym (bits_are q) ∙ a.on;
          rank = omega (
            arith,
            ap (count (mark (flags_of cs))) (flags_length cs),
            count_same (bit_at ws) (either (mark (flags_of cs)) (has (counts_of cs))) q (λ j. sym (bits_are j)),
            count_next (bit_at ws) q,
            a.on,
            count_none (bit_at ws) (q + 1) (length cs) (omega (arith, a.below)) (λ j l n. a.off j (omega arith) n),
            same_size (length cs),
          );
          shared = count_none (both (mark (flags_of cs)) (has (counts_of cs))) 0 (q + 1) (omega arith) (λ j l n. omega (arith, none_active j)) ∙ count-zero (both (mark (flags_of cs)) (has (counts_of cs)));
        };
      };
    }
