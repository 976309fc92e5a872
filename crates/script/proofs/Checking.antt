-- The checks of a script: a walk that stops at the first element that fails, one over both lists that tells the coordinates, the chain of verdicts, and what
-- a fine verdict tells of the lists, which is that they passed each test. Assumes nothing.
use mathlib.Core.Path.{◌≡◌, refl, sym, ap, ◌∙◌, subst}
use mathlib.Core.Logic.{⊎_elim, ◌≢◌}
use mathlib.Core.Bool.{Bool, true, false, cond, not, ◌&&◌, ◌||◌}
use mathlib.Core.List.{List, [], ◌∷◌}
use Prim.Native.Nat.{ℕ, ◌+◌, ◌≤◌, ◌<◌}
use native.Mathlib.Numerals.{add-one}
use native.Mathlib.Omega.{arith}
use lib.Dec.{ltb, leb}
use lib.ListN.{length, get_or, set, drop, drop_of_length-le}
use lib.Seq.{drop-cons, get_or-set_same, get_or-set_other}
use borrow.Author.Tests.{lt-ltb, le-ltb, le-leb, lt-leb}
use Rattle.base.specs.Pick.{pick}
use Rattle.base.specs.Lists.{All, StrictAsc}
use Rattle.base.specs.OrderChecks.{order_of}
use Rattle.base.specs.declared.Refusal.{Refusal}
use Rattle.std.specs.Prelude.{Some, None, Ok, Err, OnOk}
use Rattle.base.specs.Verdicts.{Verdict, Fine}
use Rattle.base.proofs.Lists.{all_index, asc_at, strict_asc}
use Rattle.std.proofs.lemmas.Bool.{cases_eq, cases_lt}
use Rattle.std.proofs.lemmas.Slice.Zip.{length-zip}
use Rattle.base.proofs.OrderChecks.{order_strict}
use Rattle.base.proofs.Verdicts.{or_stop, or_skip, or_fine, lt_fine, eq_fine, same_fine}
use Rattle.rules.specs.Lists.{member}
use Rattle.rules.specs.Score.{number_of}
use Rattle.rules.specs.Checks.{script_sizes, script_orders, first_missing, first_bad_step, script_members, script_needs, script_input}
use Rattle.rules.specs.Script.{Script}
use Rattle.rules.specs.Refusals.{ScriptRoom, script_verdict}
use Rattle.rules.specs.Accepted.{ScriptFits}
use Rattle.rules.proofs.Accepted.{script_hash, script_step, script_fits}
use Rattle.rules.proofs.Score.{cases, all_member, get_or-member, at_number, number_fits, number_up}
use Rattle.std.specs.List.{position, position_or_len, zip}
use Rattle.script.specs.Given.{found, Sized}
use Rattle.script_work.specs.Sound.{Sound, Placed}

-- A walk, at i: f k is how many pass from k on before the first that fails.
pub record Passed (f : ℕ → ℕ) (i : ℕ) : Type 0 where
  pub is : f 0 ≡ i + f i

module _ {f : ℕ → ℕ} where
  pub passed_none : Passed f 0
  passed_none = record { is = omega arith }

  pub passed_more : {i : ℕ} → Passed f i → f i ≡ 1 + f (i + 1) → Passed f (i + 1)
  passed_more p e = record { is = omega (arith, p.is, e) }

  pub passed_stop : {i : ℕ} → Passed f i → f i ≡ 0 → i ≡ f 0
  passed_stop p e = omega (arith, p.is, e)

-- the query's hashes, which are to be coordinates
abbrev pub missing_from : List ℕ → List ℕ → ℕ → ℕ
missing_from coords query i = first_missing coords (drop i query)

module _ (coords query : List ℕ) (i : ℕ) where
  pub missing_next : i < length query → member (get_or query i 0) coords ≡ true → missing_from coords query i ≡ 1 + missing_from coords query (i + 1)
  unfolding first_missing pick
  missing_next l e = rw (drop-cons query i 0, e, add-one)

  pub missing_here : i < length query → member (get_or query i 0) coords ≡ false → missing_from coords query i ≡ 0
  unfolding first_missing pick
  missing_here l e = rw (drop-cons query i 0, e)

  pub missing_end : length query ≤ i → missing_from coords query i ≡ 0
  unfolding first_missing
  missing_end l = rw (drop_of_length-le query l)

-- What was looked for, found or not.
pub found_some : {i m n : ℕ} → i ≡ m → i < n → Some i ≡ found m n
found_some {i} {m} {n} e l = rw (← e) (rw (lt-ltb i n l))

pub found_none : {m n i : ℕ} → i ≡ m → n ≤ i → None ≡ found m n
found_none {m} {n} {i} e l = rw (← e) (rw (le-ltb i n l))

pub some_found : (i m n : ℕ) → Some i ≡ found m n → (i ≡ m) × (m < n)
some_found i m n e =
    ⊎_elim
    (λ (l : m < n). let f : Some i ≡ Some m = e ∙ (rw (lt-ltb m n l)) in (cc, l))
    (λ (l : n ≤ m). let f : Some i ≡ None = e ∙ (rw (le-ltb m n l)) in absurd (cc)) (cases_lt m n)

pub none_found : (m n : ℕ) → None ≡ found m n → n ≤ m
none_found m n e =
    ⊎_elim
    (λ (l : m < n). let f : None ≡ Some m = e ∙ (rw (lt-ltb m n l)) in absurd (cc))
    (λ (l : n ≤ m). l) (cases_lt m n)

-- A step that is past the coordinates or of no kind.
abbrev pub bad_at : ℕ → ℕ × ℕ → Bool
bad_at n p = leb n p.0 || ltb 1 p.1

bad_is : (n i k : ℕ) → not (bad_at n (i, k)) ≡ (ltb i n && leb k 1)
bad_is n i k =
    ⊎_elim
    (λ (a : i < n). ⊎_elim (λ (c : 1 < k). rw (lt-leb n i a, lt-ltb i n a, lt-ltb 1 k c, lt-leb k 1 c)) (λ (c : k ≤ 1). rw (lt-leb n i a, lt-ltb i n a, le-ltb 1 k c, le-leb k 1 c)) (cases_lt 1 k))
    (λ (b : n ≤ i). rw (le-leb n i b, le-ltb i n b)) (cases_lt i n)

cond_pick : (t : Bool) (x y : ℕ) → cond t x y ≡ pick t x y
unfolding pick
cond_pick true x y = refl
cond_pick false x y = refl

bad_place : (n : ℕ) (is ks : List ℕ) → length is ≡ length ks → position_or_len (bad_at n) (zip is ks) ≡ first_bad_step n is ks
unfolding first_bad_step
bad_place n [] ks l = refl
bad_place n (i ∷ is) [] l = absurd (omega arith)
bad_place n (i ∷ is) (k ∷ ks) l =
    ap (λ (t : Bool). cond t (1 + position_or_len (bad_at n) (zip is ks)) 0) (bad_is n i k) ∙
    ap (λ (m : ℕ). cond (ltb i n && leb k 1) (1 + m) 0) (bad_place n is ks (omega arith)) ∙ cond_pick (ltb i n && leb k 1) _ _

-- they are searched as pairs
pub found_bad : (n : ℕ) (is ks : List ℕ) → length is ≡ length ks → position (bad_at n) (zip is ks) ≡ found (first_bad_step n is ks) (length is)
found_bad n is ks l =
    let long : length (zip is ks) ≡ length is = omega (arith, length-zip is ks) in
    ap (λ (m : ℕ). found m (length (zip is ks))) (bad_place n is ks l) ∙ ap (found (first_bad_step n is ks)) long

bad_cons : (n i k : ℕ) (is ks : List ℕ) → i < n → k ≤ 1 → first_bad_step n (i ∷ is) (k ∷ ks) ≡ 1 + first_bad_step n is ks
unfolding first_bad_step pick
bad_cons n i k is ks a b = rw (lt-ltb i n a, le-leb k 1 b)

-- none is bad where bounds of all indexes and of all kinds tell it
pub bad_none : (n x y : ℕ) (is ks : List ℕ) → x < n → y ≤ 1 → length is ≡ length ks → All (λ i. i ≤ x) is → All (λ k. k ≤ y) ks → length is ≡ first_bad_step n is ks
unfolding first_bad_step
bad_none n x y [] ks l m e a b = refl
bad_none n x y (i ∷ is) [] l m e a b = absurd (omega arith)
bad_none n x y (i ∷ is) (k ∷ ks) l m e (a, as') (b, bs) =
    omega (arith, bad_cons n i k is ks (omega arith) (omega arith), bad_none n x y is ks l m (omega arith) as' bs)

-- The walk over both lists, at hash i: the hashes before it are coordinates, their places stand in the list, and no hash to come lies before the last of them.
pub record Finding (query coords places : List ℕ) (at i : ℕ) : Type 0 where
  pub few : i ≤ length query
  pub passed : Passed (missing_from coords query) i
  pub placed : Placed query coords places i
  pub behind : (a : ℕ) → i ≤ a → a < length query → at ≤ number_of coords (get_or query a 0)

module _ {query coords places : List ℕ} {at i : ℕ} (w : Finding query coords places at i) where
  module _ (query_asc : StrictAsc query) (coords_asc : StrictAsc coords) (l : i < length query) (n : ℕ) (e : n ≡ number_of coords (get_or query i 0)) where
    pub finding_more : n < length coords → get_or coords n 0 ≡ get_or query i 0 → i < length places → Finding query coords (set places i n) n (i + 1)
    finding_more m f k = record {
      few = omega arith;
      passed = passed_more w.passed (missing_next coords query i l (subst (λ (x : ℕ). member x coords ≡ true) f (get_or-member coords n m)));
      placed = record {
        at = λ j b.
            ⊎_elim
            (λ (x : j ≡ i). subst (λ (y : ℕ). get_or (set places i n) y 0 ≡ number_of coords (get_or query y 0)) (sym x) (get_or-set_same places i n 0 k ∙ e))
            (λ (x : j ≢ i). get_or-set_other places i j n 0 x ∙ w.placed.at j (omega arith)) (cases_eq j i);
      };
      behind = λ a b c. omega (arith, e, number_up coords (get_or query i 0) (get_or query a 0) (asc_at query (strict_asc query query_asc) i a (omega arith) c));
    }

    missing : (member (get_or query i 0) coords ≡ true → ⊥) → i ≡ first_missing coords query
    missing n = passed_stop w.passed (missing_here coords query i l (⊎_elim (λ (t : member (get_or query i 0) coords ≡ true). absurd (n t)) (λ t. t) (cases (member (get_or query i 0) coords))))

    pub finding_past : length coords ≤ n → i ≡ first_missing coords query
    finding_past b = missing (λ t. omega (arith, e, number_fits coords coords_asc (get_or query i 0) t))

    pub finding_other : (get_or coords n 0 ≡ get_or query i 0 → ⊥) → i ≡ first_missing coords query
    finding_other b = missing (λ t. b (ap (λ (k : ℕ). get_or coords k 0) e ∙ at_number coords coords_asc (get_or query i 0) t))

  pub finding_end : length query ≤ i → i ≡ first_missing coords query
  finding_end l = passed_stop w.passed (missing_end coords query i l)

pub placed_all : {query coords places : List ℕ} {m : ℕ} → length query ≤ m → Placed query coords places m → Placed query coords places (length query)
placed_all l p = record { at = λ i h. p.at i (omega arith) }

pub placed_to : {query coords places : List ℕ} {m n : ℕ} → m ≡ n → Placed query coords places m → Placed query coords places n
placed_to {query} {coords} {places} e p = subst (λ (k : ℕ). Placed query coords places k) e p

-- The verdict is the first refusal in number order.
abbrev pub sizes : Script → Verdict
sizes s = script_sizes (length s.query) (length s.coords) (length s.indexes) (length s.kinds)

abbrev pub orders : Script → Verdict
orders s = script_orders s.query s.coords

abbrev pub members : Script → Verdict
members s = script_members s.query s.coords s.indexes s.kinds

abbrev room : Script → ScriptRoom → Verdict
room s r = script_needs (length s.coords) (length s.indexes) r.counts r.words r.summary r.pivots r.shareds

module _ (s : Script) (r : ScriptRoom) where
  pub refused_sizes : (x : Refusal) → sizes s ≡ Err x → Err x ≡ script_verdict s r
  unfolding script_verdict script_input
  refused_sizes x e = or_stop _ (room s r) x (sym (or_stop (sizes s) _ x e))

  module _ (fine₁ : sizes s ≡ Fine) where
    pub refused_orders : (x : Refusal) → orders s ≡ Err x → Err x ≡ script_verdict s r
    unfolding script_verdict script_input
    refused_orders x e = or_stop _ (room s r) x (sym (or_skip (sizes s) _ (Err x) fine₁ (or_stop (orders s) (members s) x e)))

    module _ (fine₂ : orders s ≡ Fine) where
      pub refused_members : (x : Refusal) → members s ≡ Err x → Err x ≡ script_verdict s r
      unfolding script_verdict script_input
      refused_members x e = or_stop _ (room s r) x (sym (or_skip (sizes s) _ (Err x) fine₁ (or_skip (orders s) (members s) (Err x) fine₂ (sym e))))

      pub left_to_needs : (z : Verdict) → members s ≡ Fine → z ≡ room s r → z ≡ script_verdict s r
      unfolding script_verdict script_input
      left_to_needs z fine₃ e =
          or_skip _ (room s r) z (sym (or_skip (sizes s) _ Fine fine₁ (or_skip (orders s) (members s) Fine fine₂ (sym fine₃)))) e

-- What each fine verdict tells.
pub sizes_fine : (s : Script) → sizes s ≡ Fine → Sized s.query s.coords s.indexes s.kinds
sizes_fine s e =
    let a = lt_fine 4096 (length s.query) _ _ e in
    let b = lt_fine 65536 (length s.coords) _ _ a.1 in
    let c = eq_fine (length s.coords) 0 _ _ b.1 in
    let d = lt_fine 65536 (length s.indexes) _ _ c.1 in
    let f = lt_fine 65536 (length s.kinds) _ _ d.1 in
    let g = same_fine (length s.indexes) (length s.kinds) _ _ f.1 in
    record { few_hashes = a.0; few_coords = b.0; few_steps = d.0; parallel = g.0 }

pub orders_fine : (s : Script) → orders s ≡ Fine → (0 < length s.query) × StrictAsc s.query × StrictAsc s.coords
orders_fine s e =
    let a = eq_fine (length s.query) 0 _ _ e in
    let b = lt_fine (order_of ltb s.query) (length s.query) _ _ a.1 in
    let c = lt_fine (order_of ltb s.coords) (length s.coords) _ _ b.1 in
    (omega (arith, a.0), order_strict s.query b.0, order_strict s.coords c.0)

pub members_fine : (s : Script) → members s ≡ Fine → length s.query ≤ first_missing s.coords s.query
members_fine s e = (lt_fine (first_missing s.coords s.query) (length s.query) _ _ e).0

pub all_ok : {P : Type 0} (v : Verdict) → P → OnOk v P
all_ok (Ok u) p = p
all_ok (Err x) p = tt

-- A fine verdict: the work has all it asks.
module _ (s : Script) (r : ScriptRoom) (fine : script_verdict s r ≡ Fine) where
  parts : (sizes s ≡ Fine) × (orders s ≡ Fine) × (members s ≡ Fine) × (room s r ≡ Fine)
  unfolding script_verdict script_input
  parts =
      let x = or_fine _ _ fine in
      let y = or_fine _ _ x.0 in
      let z = or_fine _ _ y.1 in
      (y.0, z.0, z.1, x.1)

  pub fine_sized : Sized s.query s.coords s.indexes s.kinds
  fine_sized = sizes_fine s parts.0

  pub fine_fits : ScriptFits (length s.coords) (length s.indexes) r.counts r.words r.summary r.pivots r.shareds
  fine_fits = script_fits (length s.coords) (length s.indexes) r.counts r.words r.summary r.pivots r.shareds parts.3

  hashes_in : (h : ℕ) → member h s.query ≡ true → member h s.coords ≡ true
  hashes_in =
      all_member (λ h. member h s.coords ≡ true) s.query
      (all_index (λ h. member h s.coords ≡ true) s.query (script_hash s.query s.coords s.indexes s.kinds parts.2))

  pub fine_sound : Sound s.query s.coords
  fine_sound =
      let o = orders_fine s parts.1 in
      record { few = fine_sized.few_coords; some = o.0; query_asc = o.1; coords_asc = o.2; within = hashes_in }

  pub steps_in : All (λ i. i < length s.coords) s.indexes
  steps_in = all_index (λ i. i < length s.coords) s.indexes (λ j l. (script_step s.query s.coords s.indexes s.kinds parts.2 j l).0)
