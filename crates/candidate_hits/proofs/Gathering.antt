-- Keys of the kept hits at the front of a list: a group's keys are put after those that are there, one store a turn. Neighbouring kept groups are put as
-- one, and what is put, the run that is not put yet and what the other groups will give make the whole. A key is never put past the hits that were read,
-- so there is room. Where no group is dropped all hits are as one group. Assumes nothing.
use mathlib.Core.Path.{◌≡◌, refl, sym, ap, ◌∙◌}
use mathlib.Core.List.{List, [], ◌∷◌, ◌++◌, append-nil, append_assoc}
use Prim.Native.Nat.{ℕ, zero, suc, ◌+◌, ◌-◌, ◌≤◌, ◌<◌}
use native.Mathlib.Numerals.{add-one}
use native.Mathlib.Omega.{arith}
use lib.ListN.{length, get_or, set, take, drop, length-append, length-drop, length-set, drop_of_length-le}
use borrow.Rule.Slice.PartMut.{put_mid, post_of, Post-is}
use lib.Seq.{paste, paste-zero, paste-suc, length-paste, take_at, take-add, drop_at, drop-append-add, drop-drop, length-take-le, take_all}
use Rattle.base.specs.Buffers.{over}
use Rattle.base.specs.Lists.{All}
use Rattle.base.specs.Sort.{sort_of}
use Rattle.base.proofs.Sort.{length_sort}
use Rattle.keys.specs.Lists.{Fronted}
use Rattle.rules.specs.Lists.{sum}
use Rattle.rules.specs.Finder.{kept, key_of, keys_of}
use Rattle.rules.proofs.FinderKept.{keys_length, keys_at, sum_next, kept_from, kept_keep, kept_pass, kept_end, kept_all}
use Rattle.candidate_hits.specs.declared.Hits.{Hits}

-- ---- all keys of some hits, after the first k

pub record Putting (cs ps entry now : List ℕ) (k : ℕ) : Type 0 where
  pub is : now ≡ paste entry 0 (keys_of cs ps) k
  pub same : length now ≡ length entry

module _ {cs ps entry : List ℕ} where
  pub putting_start : Putting cs ps entry entry 0
  putting_start = record { is = paste-zero entry 0 (keys_of cs ps); same = refl }

  module _ (parallel : length cs ≡ length ps) (exact : length entry ≡ length cs) {now : List ℕ} {k : ℕ} (p : Putting cs ps entry now k) where
    pub putting_step : (x : ℕ) → k < length now → x ≡ key_of (get_or cs k 0) (get_or ps k 0) → Putting cs ps entry (set now k x) (k + 1)
    putting_step x l e =
        let hits = keys_of cs ps in
        let long : length hits ≡ length cs = keys_length cs ps parallel in
        let at : k ≡ 0 + k = omega arith in
        let within : k < length entry = omega (arith, p.same) in
        let key : x ≡ get_or hits k 0 = e ∙ sym (keys_at cs ps k parallel (omega arith)) in
        let more : set now k x ≡ paste entry 0 hits (k + 1) =
        ap (λ (v : ℕ). set now k v) key ∙ ap (λ (a : List ℕ). set a k (get_or hits k 0)) p.is ∙
        ap (λ (i : ℕ). set (paste entry 0 hits k) i (get_or hits k 0)) at ∙ paste-suc entry 0 hits k 0 (omega arith) (omega arith) ∙ ap (paste entry 0 hits) (sym (add-one k)) in
        record { is = more; same = length-set now k x ∙ p.same }

    pub putting_end : length now ≤ k → now ≡ keys_of cs ps
    putting_end l =
        let hits = keys_of cs ps in
        let long : length hits ≡ length cs = keys_length cs ps parallel in
        p.is ∙ ap (λ (x : List ℕ). x ++ drop (0 + k) entry) (take_all k hits (omega (arith, p.same))) ∙
        ap (λ (x : List ℕ). hits ++ x) (drop_of_length-le entry (omega (arith, p.same))) ∙ append-nil hits

-- ---- the keys of a part of the hits, put in the place of a part of the list

keys_take : (n : ℕ) (cs ps : List ℕ) → keys_of (take n cs) (take n ps) ≡ take n (keys_of cs ps)
unfolding keys_of
keys_take zero cs ps = refl
keys_take (suc n) [] ps = refl
keys_take (suc n) (c ∷ cs) [] = refl
keys_take (suc n) (c ∷ cs) (p ∷ ps) = ap (λ (l : List ℕ). key_of c p ∷ l) (keys_take n cs ps)

keys_drop : (n : ℕ) (cs ps : List ℕ) → length cs ≡ length ps → keys_of (drop n cs) (drop n ps) ≡ drop n (keys_of cs ps)
unfolding keys_of
keys_drop zero cs ps e = refl
keys_drop (suc n) [] [] e = refl
keys_drop (suc n) [] (p ∷ ps) e = absurd (omega arith)
keys_drop (suc n) (c ∷ cs) [] e = absurd (omega arith)
keys_drop (suc n) (c ∷ cs) (p ∷ ps) e = keys_drop n cs ps (omega arith)

pub put_part : (cs ps now : List ℕ) {part : List ℕ} (from run n : ℕ) → length cs ≡ length ps
    → part ≡ keys_of (take (from + run - from) (drop from cs)) (take (from + run - from) (drop from ps)) → put_mid n (n + run - n) now part ≡ paste now n (drop from (keys_of cs ps)) run
put_part cs ps now {part} from run n parallel is =
    let hits = keys_of cs ps in
    let many : from + run - from ≡ run = omega arith in
    let keys : part ≡ take run (drop from hits) =
    is ∙ keys_take (from + run - from) (drop from cs) (drop from ps) ∙ ap (take (from + run - from)) (keys_drop from cs ps parallel) ∙ ap (λ (k : ℕ). take k (drop from hits)) many in
    ap (λ (x : List ℕ). take n now ++ (x ++ post_of n (n + run - n) now)) keys ∙
    ap (λ (x : List ℕ). take n now ++ (take run (drop from hits) ++ x)) (Post-is n (n + run) now (omega arith)) ∙ sym (append_assoc (take n now) (take run (drop from hits)) (drop (n + run) now))

-- ---- all groups, before the g-th: the `run` hits from `from` on are kept and not put yet

-- a part put after a front
pasted : (front entry now part : List ℕ) (n m : ℕ) → length front ≡ n → now ≡ over front entry → m ≤ length part → paste now n part m ≡ over (front ++ take m part) entry
pasted front entry now part n m e is fits =
    let rest : drop (n + m) now ≡ drop (n + m) entry =
    ap (drop (n + m)) is ∙ ap (λ (k : ℕ). drop (k + m) (over front entry)) (sym e) ∙ drop-append-add front (drop (length front) entry) m ∙
    drop-drop m (length front) entry ∙ ap (λ (k : ℕ). drop (k + m) entry) e in
    let long : length (front ++ take m part) ≡ n + m = length-append front (take m part) ∙ ap (λ (k : ℕ). k + length (take m part)) e ∙ ap (λ (k : ℕ). n + k) (length-take-le m part fits) in
    ap (λ (x : List ℕ). x ++ take m part ++ drop (n + m) now) (ap (take n) is ∙ take_at front (drop (length front) entry) n e) ∙
    ap (λ (x : List ℕ). front ++ take m part ++ x) rest ∙ ap (λ (k : ℕ). front ++ take m part ++ drop k entry) (sym long)

-- the keys of the hits, and those of the kept ones
abbrev hits_of : Hits → List ℕ
hits_of h = keys_of h.contigs.now h.positions.now

abbrev kept_of : Hits → List ℕ
kept_of h = kept h.threshold h.groups.now (hits_of h)

pub record Filling (h : Hits) (entry now : List ℕ) (g from run n : ℕ) : Type 0 where
  pub front : List ℕ
  pub many : length front ≡ n
  pub whole : front ++ take run (drop from (hits_of h)) ++ kept_from h.threshold h.groups.now (hits_of h) g (from + run) ≡ kept_of h
  pub is : now ≡ over front entry
  pub left : from + run + sum (drop g h.groups.now) ≡ length h.contigs.now
  pub few : n ≤ from
  pub room : length h.contigs.now ≤ length entry
  pub same : length now ≡ length entry
  pub upto : g ≤ length h.groups.now

pub filling_start : (h : Hits) {entry : List ℕ} → length h.contigs.now ≤ length entry → Filling h entry entry 0 0 0 0
filling_start h {entry} room = record {
  front = [];
  many = refl;
  whole = refl;
  is = refl;
  left = omega (arith, h.all);
  few = omega arith;
  room = room;
  same = refl;
  upto = omega arith;
}

module _ {h : Hits} {entry now : List ℕ} {g from run n : ℕ} (f : Filling h entry now g from run n) where
  abbrev size : ℕ
  size = get_or h.groups.now g 0

  abbrev part : List ℕ
  part = take run (drop from (hits_of h))

  hits_long : length (hits_of h) ≡ length h.contigs.now
  hits_long = keys_length h.contigs.now h.positions.now h.parallel

  -- the run's hits are there, and so is room for their keys
  pub filling_within : from + run ≤ length h.contigs.now
  filling_within = omega (arith, f.left)

  pub filling_room : n + run ≤ length now
  filling_room = omega (arith, f.left, f.few, f.room, f.same)

  -- the run is put after the front
  fits : run ≤ length (drop from (hits_of h))
  fits = omega (arith, f.left, length-drop from (hits_of h), hits_long)

  put_many : length (f.front ++ part) ≡ n + run
  put_many = length-append f.front part ∙ ap (λ (k : ℕ). k + length part) f.many ∙ ap (λ (k : ℕ). n + k) (length-take-le run (drop from (hits_of h)) fits)

  put_is : (now' : List ℕ) → now' ≡ paste now n (drop from (hits_of h)) run → now' ≡ over (f.front ++ part) entry
  put_is now' put = put ∙ pasted f.front entry now (drop from (hits_of h)) n run f.many f.is fits

  module _ (l : g < length h.groups.now) where
    pub filling_keep : size < h.threshold → Filling h entry now (g + 1) from (run + size) n
    filling_keep short =
        let hits = hits_of h in
        let at : from + (run + size) ≡ from + run + size = omega arith in
        let next = take size (drop (from + run) hits) in
        let longer : take (run + size) (drop from hits) ≡ part ++ next = take-add run size (drop from hits) ∙ ap (λ (x : List ℕ). part ++ take size x) (drop-drop run from hits) in
        record {
          front = f.front;
          many = f.many;
          whole =
              ap (λ (x : List ℕ). f.front ++ x ++ kept_from h.threshold h.groups.now hits (g + 1) (from + (run + size))) longer ∙
              ap (λ (k : ℕ). f.front ++ (part ++ next) ++ kept_from h.threshold h.groups.now hits (g + 1) k) at ∙
              ap (λ (x : List ℕ). x ++ kept_from h.threshold h.groups.now hits (g + 1) (from + run + size)) (sym (append_assoc f.front part next)) ∙
              append_assoc (f.front ++ part) next (kept_from h.threshold h.groups.now hits (g + 1) (from + run + size)) ∙
              ap (λ (x : List ℕ). f.front ++ part ++ x) (sym (kept_keep h.threshold h.groups.now hits g (from + run) l short)) ∙ f.whole;
          is = f.is;
          left = omega (arith, sum_next h.groups.now g l, f.left);
          few = f.few;
          room = f.room;
          same = f.same;
          upto = omega arith;
        }

    pub filling_pass : {now' : List ℕ} → h.threshold ≤ size → now' ≡ paste now n (drop from (hits_of h)) run → Filling h entry now' (g + 1) (from + run + size) 0 (n + run)
    filling_pass {now'} long put =
        let hits = hits_of h in
        let at : from + run + size + 0 ≡ from + run + size = omega arith in
        record {
          front = f.front ++ part;
          many = put_many;
          whole =
              ap (λ (x : List ℕ). x ++ kept_from h.threshold h.groups.now hits (g + 1) (from + run + size + 0)) (append-nil (f.front ++ part)) ∙
              ap (λ (k : ℕ). f.front ++ part ++ kept_from h.threshold h.groups.now hits (g + 1) k) at ∙
              ap (λ (x : List ℕ). f.front ++ part ++ x) (sym (kept_pass h.threshold h.groups.now hits g (from + run) l long)) ∙ f.whole;
          is = put_is now' put;
          left = omega (arith, sum_next h.groups.now g l, f.left);
          few = omega (arith, f.few);
          room = f.room;
          same = ap length put ∙ length-paste now n (drop from hits) run filling_room fits ∙ f.same;
          upto = omega arith;
        }

  pub filling_end : {now' : List ℕ} → length h.groups.now ≤ g → now' ≡ paste now n (drop from (hits_of h)) run → Fronted (kept_of h) entry now' (n + run)
  filling_end {now'} l put =
      let all : f.front ++ part ≡ kept_of h =
      sym (append-nil (f.front ++ part)) ∙ ap (λ (x : List ℕ). f.front ++ part ++ x) (sym (kept_end h.threshold h.groups.now (hits_of h) g (from + run) l)) ∙ f.whole in
      record { many = sym put_many ∙ ap length all; is = put_is now' put ∙ ap (λ (x : List ℕ). over x entry) all }

-- ---- all hits as one group, where none is dropped

pub flat_fronted : (h : Hits) {entry part : List ℕ} → All (λ g. g < h.threshold) h.groups.now → part ≡ sort_of (hits_of h)
    → Fronted (sort_of (kept_of h)) entry (part ++ drop (length h.contigs.now) entry) (length h.contigs.now)
flat_fronted h {entry} {part} short sorted =
    let hits = hits_of h in
    let long : length hits ≡ length h.contigs.now = keys_length h.contigs.now h.positions.now h.parallel in
    let many : length h.contigs.now ≡ length (sort_of hits) = sym (length_sort hits ∙ long) in
    rw (kept_all h.threshold h.groups.now hits short (h.all ∙ sym long))
    (record { many = many; is = ap (λ (x : List ℕ). x ++ drop (length h.contigs.now) entry) sorted ∙ ap (λ (k : ℕ). sort_of hits ++ drop k entry) many })

-- ---- the front

module _ {answers entry now : List ℕ} {n : ℕ} (f : Fronted answers entry now n) where
  pub fronted_take : take n now ≡ answers
  fronted_take = ap (take n) f.is ∙ take_at answers (drop (length answers) entry) n (sym f.many)

  pub fronted_within : length now ≡ length entry → n ≤ length now
  fronted_within same = omega (arith, ap length f.is, length-append answers (drop (length answers) entry), f.many)
