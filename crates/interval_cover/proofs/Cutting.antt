-- Where a sorted list is cut: i elements are below x. While the keys at a position are passed, those before i are at or below it, and the next is not below
-- it. Assumes nothing.
use mathlib.Core.Path.{◌≡◌}
use mathlib.Core.Logic.{◌⊎◌, inl, inr, ⊎_elim, ◌≢◌}
use mathlib.Core.List.{List}
use Prim.Native.Nat.{ℕ, ◌+◌, ◌-◌, ◌≤◌, ◌<◌, min}
use native.Mathlib.Omega.{arith}
use lib.ListN.{length, get_or}
use lib.Dec.{ltb}
use borrow.Author.Tests.{lt-ltb, le-ltb}
use Rattle.base.specs.Pick.{pick}
use Rattle.base.specs.Lists.{Asc}
use Rattle.base.proofs.Lists.{asc_at}
use Rattle.std.proofs.lemmas.Bool.{cases_lt}
use Rattle.base.proofs.Order.{le_or_le}
use Rattle.keys.specs.Lists.{below}
use Rattle.keys.proofs.Searching.{below_is}
use Rattle.interval_cover.specs.Cover.{Cut}

pub cut_is : (xs : List ℕ) (x i : ℕ) → Asc xs → Cut xs x i → below x xs ≡ i
cut_is xs x i asc c =
    below_is x xs i c.upto (λ k l. omega (arith, asc_at xs asc k (i - 1) (omega arith) (omega (arith, c.upto)), c.before (omega arith)))
    (λ k l m. omega (arith, asc_at xs asc i k l m, c.after (omega arith)))

pub record Amid (xs : List ℕ) (p i : ℕ) : Type 0 where
  pub upto : i ≤ length xs
  pub before : 0 < i → get_or xs (i - 1) 0 ≤ p
  pub after : i < length xs → p ≤ get_or xs i 0

module _ {xs : List ℕ} {p i : ℕ} where
  pub cut_amid : Cut xs p i → Amid xs p i
  cut_amid c = record { upto = c.upto; before = λ l. omega (arith, c.before l); after = c.after }

  module _ (a : Amid xs p i) where
    pub amid_step : Asc xs → i < length xs → get_or xs i 0 ≡ p → Amid xs p (i + 1)
    amid_step asc l e =
        let back : i + 1 - 1 ≡ i = omega arith in
        record {
          upto = omega arith;
          before = λ _. rw back (omega (arith, e));
          after = λ m. omega (arith, e, asc_at xs asc i (i + 1) (omega arith) m);
        }

    pub amid_end : length xs ≤ i → Cut xs (p + 1) i
    amid_end l = record { upto = a.upto; before = λ m. omega (arith, a.before m); after = λ m. absurd (omega arith) }

    pub amid_stop : get_or xs i 0 ≢ p → Cut xs (p + 1) i
    amid_stop n = record { upto = a.upto; before = λ m. omega (arith, a.before m); after = λ m. omega (arith, a.after m, n) }

-- the next key, where i starts and j ends are passed
unfoldable pub next_key : List ℕ → List ℕ → ℕ → ℕ → ℕ
next_key opens closes i j = pick (ltb i (length opens)) (min (get_or opens i 0) (get_or closes j 0)) (get_or closes j 0)

-- It is the lesser of the next start and the next end.
module _ (opens closes : List ℕ) (i j : ℕ) where
  pub next_both : i < length opens → next_key opens closes i j ≡ min (get_or opens i 0) (get_or closes j 0)
  unfolding next_key pick
  next_both l = rw (lt-ltb i (length opens) l)

  pub next_close : length opens ≤ i → next_key opens closes i j ≡ get_or closes j 0
  unfolding next_key pick
  next_close l = rw (le-ltb i (length opens) l)

  pub next_open_le : i < length opens → next_key opens closes i j ≤ get_or opens i 0
  next_open_le l = omega (arith, next_both l)

  pub next_close_le : next_key opens closes i j ≤ get_or closes j 0
  next_close_le = ⊎_elim (λ (l : i < length opens). omega (arith, next_both l)) (λ (l : length opens ≤ i). omega (arith, next_close l)) (cases_lt i (length opens))

  -- it is a start or an end
  pub next_is : (next_key opens closes i j ≡ get_or closes j 0) ⊎ ((i < length opens) × (next_key opens closes i j ≡ get_or opens i 0))
  next_is = ⊎_elim both (λ (l : length opens ≤ i). inl (next_close l)) (cases_lt i (length opens))
    where
      both : i < length opens → (next_key opens closes i j ≡ get_or closes j 0) ⊎ ((i < length opens) × (next_key opens closes i j ≡ get_or opens i 0))
      both l =
          ⊎_elim (λ (m : get_or opens i 0 ≤ get_or closes j 0). inr (l, omega (arith, next_both l))) (λ (m : get_or closes j 0 ≤ get_or opens i 0). inl (omega (arith, next_both l)))
          (le_or_le (get_or opens i 0) (get_or closes j 0))
