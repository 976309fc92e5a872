-- A hash's number from its neighbours: the least has number 0, the next above one has the next number, and the largest the last. Assumes nothing.
use mathlib.Core.Path.{◌≡◌, sym, ◌∙◌}
use mathlib.Core.Logic.{⊎_elim}
use mathlib.Core.Bool.{true}
use mathlib.Core.List.{List}
use Prim.Native.Nat.{ℕ, ◌+◌, ◌≤◌, ◌<◌}
use native.Mathlib.Omega.{arith}
use lib.ListN.{length, get_or}
use Rattle.base.specs.Lists.{StrictAsc}
use Rattle.base.proofs.Lists.{strict_at, strict_asc, asc_at}
use Rattle.std.proofs.lemmas.Bool.{cases_lt}
use Rattle.rules.specs.Lists.{member}
use Rattle.rules.specs.Score.{number_of}
use Rattle.rules.proofs.Score.{get_or-member, at_number, number_fits}
use Rattle.keys.proofs.Searching.{below_is}
use Rattle.keys.proofs.Numbers.{below_number}

module _ (cs : List ℕ) (strict : StrictAsc cs) where
  number_is : (h r : ℕ) → r ≤ length cs → ((i : ℕ) → i < r → get_or cs i 0 < h) → ((i : ℕ) → r ≤ i → i < length cs → h ≤ get_or cs i 0) → number_of cs h ≡ r
  number_is h r l a b = sym (below_number h cs) ∙ below_is h cs r l a b

  pub number_least : (h : ℕ) → ((c : ℕ) → member c cs ≡ true → h ≤ c) → number_of cs h ≡ 0
  number_least h a = number_is h 0 (omega arith) (λ i l. absurd (omega arith)) (λ i l m. a (get_or cs i 0) (get_or-member cs i m))

  pub number_next : (g h : ℕ) → member g cs ≡ true → g < h → ((c : ℕ) → member c cs ≡ true → g < c → h ≤ c) → number_of cs h ≡ number_of cs g + 1
  number_next g h m l gap =
      let i = number_of cs g in
      let e : get_or cs i 0 ≡ g = at_number cs strict g m in
      let f : i < length cs = number_fits cs strict g m in
      number_is h (i + 1) (omega arith)
      (λ k b. omega (arith, asc_at cs (strict_asc cs strict) k i (omega arith) f))
      (λ k b n. gap (get_or cs k 0) (get_or-member cs k n) (omega (arith, strict_at cs strict i k (omega arith) n)))

  pub number_largest : (g : ℕ) → member g cs ≡ true → ((c : ℕ) → member c cs ≡ true → c ≤ g) → number_of cs g + 1 ≡ length cs
  number_largest g m a =
      let i = number_of cs g in
      let e : get_or cs i 0 ≡ g = at_number cs strict g m in
      let f : i < length cs = number_fits cs strict g m in
      ⊎_elim
      (λ (l : i + 1 < length cs). absurd (omega (arith, strict_at cs strict i (i + 1) (omega arith) l, a (get_or cs (i + 1) 0) (get_or-member cs (i + 1) l))))
      (λ (l : length cs ≤ i + 1). omega arith)
      (cases_lt (i + 1) (length cs))
