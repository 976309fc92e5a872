-- The nearest set bit of a list of words, from a count of zeros in one shifted word, and past the words that the summary says are 0.
-- The shift drops the bits on the far side of the place, so that the count is the way from the place to the nearest set bit.
use mathlib.Core.Path.{◌≡◌, refl, ap, ◌∙◌, subst}
use mathlib.Core.Logic.{⊎_elim, ◌≢◌}
use mathlib.Core.List.{List}
use Prim.Native.Nat.{ℕ, ◌+◌, ◌-◌, ◌*◌, ◌/◌, ◌%◌, ◌^◌, ◌≤◌, ◌<◌}
use native.Mathlib.Omega.{arith}
use lib.Count.{count_leading_zeros, count_trailing_zeros}
use lib.ListN.{length, get_or, get_or-eq_default}
use Rattle.std.specs.Prelude.{Option, Some, None, IsSome}
use Rattle.base.specs.Nearest.{LastBelow, NoneBelow, FirstFrom, NoneFrom}
use Rattle.base.proofs.Nearest.{last_unique, last_not_none, last_more, first_unique, first_not_none, first_more}
use Rattle.std.proofs.lemmas.Bool.{cases_lt}
use Rattle.summary_bits.specs.Bits.{bit, bit_at}
use Rattle.summary_bits.specs.Summary.{Summary}
use Rattle.summary_bits.specs.Nearest.{Prev, Next}
use Rattle.summary_bits.proofs.Number.{on_lt, none_upto, upto_le, top_upto, top_near, top_of, none_from, low_from, low_near, low_of}
use Rattle.summary_bits.proofs.Words.{bit_in, bit_at_is, bit_at-zero}

-- what an answer that is there says
pub prev_at : {f : ℕ → ℕ} {n : ℕ} {r : Option ℕ} {q : ℕ} → r ≡ Some q → Prev f n r → LastBelow f n q
prev_at {f} {n} e p = subst (λ (r : Option ℕ). Prev f n r) e p

pub next_at : {f : ℕ → ℕ} {n : ℕ} {r : Option ℕ} {q : ℕ} → r ≡ Some q → Next f n r → FirstFrom f n q
next_at {f} {n} e p = subst (λ (r : Option ℕ). Next f n r) e p

-- it is there unless nothing is set
pub prev_some : (f : ℕ → ℕ) (n : ℕ) (r : Option ℕ) → Prev f n r → (NoneBelow f n → ⊥) → IsSome r
prev_some f n (Some q) a s = refl
prev_some f n None a s = absurd (s a)

pub next_some : (f : ℕ → ℕ) (n : ℕ) (r : Option ℕ) → Next f n r → (NoneFrom f n → ⊥) → IsSome r
next_some f n (Some q) a s = refl
next_some f n None a s = absurd (s a)

-- one answer is right
pub prev_unique : (f : ℕ → ℕ) (n : ℕ) (r q : Option ℕ) → Prev f n r → Prev f n q → r ≡ q
prev_unique f n (Some r) (Some q) a b = ap (λ (k : ℕ). Some k) (last_unique a b)
prev_unique f n (Some r) None a b = absurd (last_not_none a b)
prev_unique f n None (Some q) a b = absurd (last_not_none b a)
prev_unique f n None None a b = refl

pub next_unique : (f : ℕ → ℕ) (n : ℕ) (r q : Option ℕ) → Next f n r → Next f n q → r ≡ q
next_unique f n (Some r) (Some q) a b = ap (λ (k : ℕ). Some k) (first_unique a b)
next_unique f n (Some r) None a b = absurd (first_not_none a b)
next_unique f n None (Some q) a b = absurd (first_not_none b a)
next_unique f n None None a b = refl

-- an answer below n is one below m, where no place from n to m is set
pub prev_more : (f : ℕ → ℕ) (n m : ℕ) → n ≤ m → ((k : ℕ) → n ≤ k → k < m → f k ≡ 0) → (r : Option ℕ) → Prev f n r → Prev f m r
prev_more f n m h none (Some q) a = last_more f n m q h none a
prev_more f n m h none None a = λ k l. ⊎_elim (λ (u : k < n). a k u) (λ (u : n ≤ k). none k u l) (cases_lt k n)

-- an answer from m on is one from n on, where no place from n to m is set
pub next_more : (f : ℕ → ℕ) (n m : ℕ) → n ≤ m → ((k : ℕ) → n ≤ k → k < m → f k ≡ 0) → (r : Option ℕ) → Next f m r → Next f n r
next_more f n m h none (Some q) a = first_more f n m q h none a
next_more f n m h none None a = λ k l. ⊎_elim (λ (u : k < m). none k l u) (λ (u : m ≤ k). a k u) (cases_lt k m)

-- The bits below `end`, of the list: of the word of the bit `last` before it, shifted so that `last` is its top bit.
module _ (ws : List ℕ) (last end : ℕ) (next : last + 1 ≡ end) where
  pub upto_none : get_or ws (last / 64) 0 * 2 ^ (63 - last % 64) % 2 ^ 64 ≡ 0 → (k : ℕ) → last / 64 * 64 ≤ k → k < end → bit_at ws k ≡ 0
  upto_none e k l m =
      bit_at_is ws (last / 64) k (omega arith) ∙ none_upto (get_or ws (last / 64) 0) (last % 64) (omega arith) e (k % 64) (omega arith)

  module _ (n : get_or ws (last / 64) 0 * 2 ^ (63 - last % 64) % 2 ^ 64 ≢ 0) where
    pub upto_near : count_leading_zeros 64 (get_or ws (last / 64) 0 * 2 ^ (63 - last % 64) % 2 ^ 64) ≤ last % 64
    upto_near = upto_le (get_or ws (last / 64) 0) (last % 64) (omega arith) n

    pub upto_at : LastBelow (bit_at ws) end (last - count_leading_zeros 64 (get_or ws (last / 64) 0 * 2 ^ (63 - last % 64) % 2 ^ 64))
    upto_at =
        let z = count_leading_zeros 64 (get_or ws (last / 64) 0 * 2 ^ (63 - last % 64) % 2 ^ 64) in
        let h = upto_near in
        let a = top_upto (get_or ws (last / 64) 0) (last % 64) (omega arith) n in
        record {
          below = omega arith;
          on = bit_at_is ws (last / 64) (last - z) (omega arith) ∙ ap (bit (get_or ws (last / 64) 0)) (omega arith) ∙ a.on;
          off = λ k l m. bit_at_is ws (last / 64) k (omega arith) ∙ a.off (k % 64) (omega arith) (omega arith);
        }

-- The bits from `first` on, of the list: of its word, shifted so that bit `first` is the lowest one.
module _ (ws : List ℕ) (first : ℕ) (h : get_or ws (first / 64) 0 < 2 ^ 64) where
  pub from_none : get_or ws (first / 64) 0 / 2 ^ (first % 64) ≡ 0 → (k : ℕ) → first ≤ k → k < first / 64 * 64 + 64 → bit_at ws k ≡ 0
  from_none e k l m =
      bit_at_is ws (first / 64) k (omega arith) ∙ none_from (get_or ws (first / 64) 0) (first % 64) (omega arith) h e (k % 64) (omega arith)

  module _ (n : get_or ws (first / 64) 0 / 2 ^ (first % 64) ≢ 0) where
    pub from_near : first % 64 + count_trailing_zeros 64 (get_or ws (first / 64) 0 / 2 ^ (first % 64)) < 64
    from_near =
        let a = low_from (get_or ws (first / 64) 0) (first % 64) (omega arith) h n in
        on_lt (get_or ws (first / 64) 0) (first % 64 + count_trailing_zeros 64 (get_or ws (first / 64) 0 / 2 ^ (first % 64))) h a.on

    pub from_at : FirstFrom (bit_at ws) first (first + count_trailing_zeros 64 (get_or ws (first / 64) 0 / 2 ^ (first % 64)))
    from_at =
        let z = count_trailing_zeros 64 (get_or ws (first / 64) 0 / 2 ^ (first % 64)) in
        let l = from_near in
        let a = low_from (get_or ws (first / 64) 0) (first % 64) (omega arith) h n in
        record {
          from = omega arith;
          on = bit_at_is ws (first / 64) (first + z) (omega arith) ∙ ap (bit (get_or ws (first / 64) 0)) (omega arith) ∙ a.on;
          off = λ k p q. bit_at_is ws (first / 64) k (omega arith) ∙ a.off (k % 64) (omega arith) (omega arith);
        }

-- A word that is not 0: its highest and its lowest set bit.
module _ (ws : List ℕ) (j : ℕ) (p : 0 < get_or ws j 0) (h : get_or ws j 0 < 2 ^ 64) where
  pub word_top : LastBelow (bit_at ws) (j * 64 + 64) (j * 64 + 63 - count_leading_zeros 64 (get_or ws j 0))
  word_top =
      let z = count_leading_zeros 64 (get_or ws j 0) in
      let l = top_near (get_or ws j 0) p h in
      let a = top_of (get_or ws j 0) p h in
      record {
        below = omega arith;
        on = bit_at_is ws j (j * 64 + 63 - z) (omega arith) ∙ ap (bit (get_or ws j 0)) (omega arith) ∙ a.on;
        off = λ k m n. bit_at_is ws j k (omega arith) ∙ a.off (k % 64) (omega arith) (omega arith);
      }

  pub word_low : FirstFrom (bit_at ws) (j * 64) (j * 64 + count_trailing_zeros 64 (get_or ws j 0))
  word_low =
      let z = count_trailing_zeros 64 (get_or ws j 0) in
      let l = low_near (get_or ws j 0) p h in
      let a = low_of (get_or ws j 0) p h in
      record {
        from = omega arith;
        on = bit_in ws j z l ∙ a.on;
        off = λ k m n. bit_at_is ws j k (omega arith) ∙ a.off (k % 64) (omega arith) (omega arith);
      }

-- From the summary to the words.
module _ (ws ss : List ℕ) (s : Summary ws ss) where
  -- a word that the summary passes over has no set bit
  pub zero_word : (k : ℕ) → bit_at ss (k / 64) ≡ 0 → bit_at ws k ≡ 0
  unfolding Summary
  zero_word k e = bit_at-zero ws k (omega (arith, s (k / 64)))

  -- a word that the summary names is not 0, and stands in the list
  pub word_pos : (j : ℕ) → bit_at ss j ≡ 1 → 0 < get_or ws j 0
  unfolding Summary
  word_pos j e = omega (arith, s j)

  pub word_in : (j : ℕ) → bit_at ss j ≡ 1 → j < length ws
  word_in j e =
      ⊎_elim (λ (l : j < length ws). l) (λ (l : length ws ≤ j). absurd (omega (arith, word_pos j e, get_or-eq_default ws 0 l))) (cases_lt j (length ws))

  -- so does the block of a summary word that is not 0
  pub block_in : (b : ℕ) → 0 < get_or ss b 0 → get_or ss b 0 < 2 ^ 64 → b * 64 < length ws
  block_in b p h = omega (arith, word_in (b * 64 + count_trailing_zeros 64 (get_or ss b 0)) (word_low ss b p h).on)

  -- the highest set bit of the last such word below n
  pub prev_found : (n j r : ℕ) → LastBelow (bit_at ss) n j → LastBelow (bit_at ws) (j * 64 + 64) r → LastBelow (bit_at ws) (n * 64) r
  prev_found n j r a b =
      last_more (bit_at ws) (j * 64 + 64) (n * 64) r (omega arith) (λ k l m. zero_word k (a.off (k / 64) (omega arith) (omega arith))) b

  pub prev_none : (n : ℕ) → NoneBelow (bit_at ss) n → NoneBelow (bit_at ws) (n * 64)
  prev_none n a k l = zero_word k (a (k / 64) (omega arith))

  -- the lowest set bit of the first such word from n on
  pub next_found : (n j r : ℕ) → FirstFrom (bit_at ss) n j → FirstFrom (bit_at ws) (j * 64) r → FirstFrom (bit_at ws) (n * 64) r
  next_found n j r a b =
      first_more (bit_at ws) (n * 64) (j * 64) r (omega arith) (λ k l m. zero_word k (a.off (k / 64) (omega arith) (omega arith))) b

  pub next_none : (n : ℕ) → NoneFrom (bit_at ss) n → NoneFrom (bit_at ws) (n * 64)
  next_none n a k l = zero_word k (a (k / 64) (omega arith))
