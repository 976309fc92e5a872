-- The work for one range: the local items are two parts of the lists handed in; numbered among the coordinates and swept over by positions, they have the rules' stops
-- and scores; and the parts of the work lists that were used are clear again. Assumes nothing.
use mathlib.Core.Path.{◌≡◌, refl, sym, ap, ◌∙◌, subst}
use mathlib.Core.Bool.{Bool, true, ◌&&◌, ◌||◌, or-true, and-eq-true_iff}
use mathlib.Core.List.{List, [], ◌∷◌, ◌++◌, map}
use Prim.Native.Nat.{ℕ, zero, suc, ◌+◌, ◌-◌, ◌^◌, ◌≤◌, ◌<◌}
use native.Mathlib.Nat.{not-suc-le-zero, le_of_suc-le-suc}
use native.Mathlib.Omega.{arith}
use lib.Dec.{ltb, eqb}
use lib.ListN.{length, get_or, take, drop, replicate, length-map, length-take, length-drop, get_or-eq_default}
use lib.Seq.{take_all, get_or-take, get_or-drop}
use borrow.Author.Tests.{eqb-true}
use Rattle.base.specs.Lists.{All, Asc}
use Rattle.base.specs.OrderChecks.{order_of}
use Rattle.base.proofs.Buffers.{zeroed_kept}
use Rattle.base.proofs.Lists.{all_map, asc_at, asc_steps}
use Rattle.base.proofs.OrderChecks.{order_strict}
use Rattle.rules.specs.Lists.{member}
use Rattle.rules.specs.Checks.{ceil64}
use Rattle.rules.specs.Score.{union, number_of}
use Rattle.rules.specs.Moves.{marks}
use Rattle.rules.specs.Sweep.{Sweep, best}
use Rattle.rules.specs.Minimizer.{Item, items_of, windows_per_start, local_items, scored_stop, stops, scored_stops, scored_starts}
use Rattle.rules.specs.Place.{minimizer_stats}
use Rattle.rules.specs.Calls.{minimizer_premises}
use Rattle.rules.specs.Accepted.{SweepFits}
use Rattle.rules.proofs.Score.{member_all, member_union, strict_union, union_left, length_union}
use Rattle.rules.proofs.Minimizer.{best_by_steps}
use Rattle.rules.proofs.MinimizerPositions.{positions, lower-le}
use Rattle.rules.proofs.MinimizerLocal.{items_positions, items_hashes, local_from, local_to, local_positions, local_hashes, local_length}
use Rattle.keys.specs.Lists.{below}
use Rattle.keys.proofs.Numbers.{below_number}
use Rattle.slide_mapper.specs.State.{flags_of}
use Rattle.sweep.specs.Beginning.{Clear, Begins}
use Rattle.sweep.specs.declared.Begun.{Begun}
use Rattle.sweep.proofs.Numbers.{all_numbers}
use Rattle.sweep.proofs.Beginning.{clear_exact}
use Rattle.minimizer_stops.specs.declared.Swept.{Swept}
use Rattle.minimizer_stops.specs.Stops.{stops_of, sites, Begin, Whole}
use Rattle.rules.specs.Minimizer.{first_stop}
use Rattle.minimizer_stops.proofs.Meaning.{whole_means}
use Rattle.sweep.specs.declared.Found.{Found}
use Rattle.minimizer_work.specs.Work.{Ready, Asks, Answers, Task, Done}
use mathlib.Core.Logic.{⊎_elim}
use Rattle.std.proofs.lemmas.Bool.{cases_lt}
use Rattle.slide_mapper.specs.declared.lists.MapperLists.{MapperLists}
use Rattle.minimizer_work.specs.declared.items.Items.{Items}

abbrev hashes : List Item → List ℕ
hashes items = map (λ (x : Item). x.hash) items

-- ---- local items, as two lists

module _ {query : List ℕ} {xs : Items} {w : ℕ} (a : Asks query xs w) {cs is ws ss : List ℕ} {b : Begun} (g : Begins query xs.hashes.now cs is ws ss b) where
  abbrev all : List ℕ
  all = union query xs.hashes.now

  abbrev items : List Item
  items = items_of xs.hashes.now xs.positions.now

  same : hashes items ≡ xs.hashes.now
  same = items_hashes xs.hashes.now xs.positions.now xs.parallel

  inside : All (λ h. member h all ≡ true) xs.hashes.now
  inside = member_all (λ h. member h all ≡ true) xs.hashes.now (λ h m. member_union h query xs.hashes.now ∙ ap (λ (t : Bool). member h query || t) m ∙ or-true (member h query))

  -- the items' numbers are what stands behind the query's
  module _ (long : length is ≡ length query + length xs.hashes.now) where
    abbrev ns : List ℕ
    ns = take (length is - length query) (drop (length query) is)

    numbers_are : ns ≡ map (number_of all) xs.hashes.now
    numbers_are = take_all (length is - length query) (drop (length query) is) (omega (arith, length-drop (length query) is)) ∙ g.numbers

    numbers_long : length ns ≡ length xs.hashes.now
    numbers_long = ap length numbers_are ∙ length-map xs.hashes.now (number_of all)

    module _ {last : ℕ} {r : Swept} (o : Whole (flags_of cs) xs.positions.now ns w last r) where
      -- by the query's marks among the coordinates
      marked : Whole (marks query all) xs.positions.now ns w last r
      marked = record {
        best = o.best ∙ ap (λ (q : List ℕ). best (map (scored_stop q (items_of ns xs.positions.now)) (stops_of w last xs.positions.now (first_stop w (sites xs.positions.now))))) g.flags;
        windows = o.windows;
      }

      named : Whole (marks query all) (positions items) (map (number_of all) (hashes items)) w last r
      named =
          subst (λ (zs : List ℕ). Whole (marks query all) zs (map (number_of all) (hashes items)) w last r) (sym (items_positions xs.hashes.now xs.positions.now xs.parallel))
          (subst (λ (zs : List ℕ). Whole (marks query all) xs.positions.now zs w last r) (numbers_are ∙ ap (map (number_of all)) (sym same)) marked)

      pub run_answers : Answers query items w last (record { best = r.best; stats = record { windows = r.windows; coords = b.coords; items = length xs.hashes.now } })
      run_answers =
          let m = whole_means query all items a.given.query_asc (strict_union query xs.hashes.now) (λ h i. union_left h query xs.hashes.now i) (subst (All (λ h. member h all ≡ true)) (sym same) inside) a.given.some w last named in
          record {
            best = m.0;
            windows = m.1;
            coords = g.many ∙ ap (λ (zs : List ℕ). length (union query zs)) (sym same);
            items_are = ap length (sym same) ∙ length-map items (λ (x : Item). x.hash);
          }

-- what the sweep over the stops asks, of the lists as a struct
pub run_begins : {query : List ℕ} {xs : Items} {w : ℕ} → Asks query xs w → {is : List ℕ} (m : MapperLists) {b : Begun} → Begins query xs.hashes.now m.counts.now is m.words.now m.summary.now b
    → length is ≡ length query + length xs.hashes.now → length m.counts.now ≡ length query + length xs.hashes.now → Begin xs.positions.now (take (length is - length query) (drop (length query) is)) w m b.at
run_begins {query} {xs} a m g long room = record {
  holds = record {
    active = g.active;
    numbers =
        subst (All (λ i. i < length m.counts.now)) (sym (numbers_are a g long))
        (all_map (λ i. i < length (union query xs.hashes.now)) (λ i. i < length m.counts.now) (λ i l. omega (arith, length_union query xs.hashes.now)) (map (number_of (union query xs.hashes.now)) xs.hashes.now) (all_numbers (union query xs.hashes.now) (strict_union query xs.hashes.now) xs.hashes.now (inside a g)));
    few = omega (arith, numbers_long a g long, a.few);
    order = omega arith;
    inside = omega arith;
  };
  parallel = numbers_long a g long ∙ xs.parallel;
  asc = xs.asc;
  some = a.some;
  small = a.small;
  item = a.item;
}

-- ---- the local items of a range

items_back : (xs : List Item) → items_of (hashes xs) (positions xs) ≡ xs
unfolding items_of
items_back [] = refl
items_back (x ∷ xs) = ap (λ (ys : List Item). x ∷ ys) (items_back xs)

asc_part : (n b : ℕ) (xs : List ℕ) → Asc xs → Asc (take n (drop b xs))
asc_part n b xs asc =
    asc_steps (take n (drop b xs)) λ i l.
    let h = length-take n (drop b xs) in
    let k = length-drop b xs in
    let p : get_or (take n (drop b xs)) i 0 ≡ get_or xs (b + i) 0 = get_or-take n (drop b xs) i 0 (omega arith) ∙ get_or-drop b xs i 0 in
    let q : get_or (take n (drop b xs)) (i + 1) 0 ≡ get_or xs (b + (i + 1)) 0 = get_or-take n (drop b xs) (i + 1) 0 (omega arith) ∙ get_or-drop b xs (i + 1) 0 in
    omega (arith, asc_at xs asc (b + i) (b + (i + 1)) (omega arith) (omega arith))

part_near : (n b : ℕ) (xs : List ℕ) → ((i : ℕ) → get_or xs i 0 < 2 ^ 32) → (i : ℕ) → get_or (take n (drop b xs)) i 0 < 2 ^ 32
part_near n b xs near i =
    ⊎_elim (λ (l : i < n). subst (λ (v : ℕ). v < 2 ^ 32) (sym (get_or-take n (drop b xs) i 0 l ∙ get_or-drop b xs i 0)) (near (b + i)))
    (λ (l : n ≤ i). subst (λ (v : ℕ). v < 2 ^ 32) (sym (get_or-eq_default (take n (drop b xs)) 0 (omega (arith, length-take n (drop b xs))))) (omega arith)) (cases_lt i n)

-- how many there are, from the two bounds
pub local_many : (s : Sweep) → Ready s.query s.hashes s.starts → (from to : ℕ) → from ≡ below s.range.start s.starts
    → to ≡ below (s.range.end + s.settings.length) s.starts → length (local_items s) ≡ to - from
unfolding number_of
local_many s r from to e f =
    omega (arith, local_length s r.parallel r.starts_asc, e ∙ below_number s.range.start s.starts, f ∙ below_number (s.range.end + s.settings.length) s.starts)

-- a part of a list, from one bound to the other
abbrev pub cut : ℕ → ℕ → List ℕ → List ℕ
cut from to xs = take (to - from) (drop from xs)

module _ {s : Sweep} {from to : ℕ} (t : Task s from to) where
  from_is : from ≡ local_from s
  unfolding number_of
  from_is = t.bounds.begins ∙ below_number s.range.start s.starts

  to_is : to ≡ local_to s
  unfolding number_of
  to_is = t.bounds.ends ∙ below_number (s.range.end + s.settings.length) s.starts

  pub task_inside : to ≤ length s.hashes
  task_inside = omega (arith, to_is, lower-le (s.range.end + s.settings.length) s.starts, t.ready.parallel)

  cut_is : (xs : List ℕ) → cut from to xs ≡ take (local_to s - local_from s) (drop (local_from s) xs)
  cut_is xs = ap (λ (i : ℕ). take (i - from) (drop from xs)) to_is ∙ ap (λ (i : ℕ). take (local_to s - i) (drop i xs)) from_is

  abbrev hs : List ℕ
  hs = cut from to s.hashes

  abbrev ps : List ℕ
  ps = cut from to s.starts

  items_are : items_of hs ps ≡ local_items s
  items_are =
      ap (λ (xs : List ℕ). items_of xs ps) (cut_is s.hashes ∙ sym (local_hashes s t.ready.parallel t.ready.starts_asc)) ∙
      ap (items_of (hashes (local_items s))) (cut_is s.starts ∙ sym (local_positions s t.ready.parallel t.ready.starts_asc)) ∙ items_back (local_items s)

  pub hashes_long : length hs ≡ to - from
  hashes_long = omega (arith, length-take (to - from) (drop from s.hashes), length-drop from s.hashes, task_inside)

  starts_long : length ps ≡ to - from
  starts_long = omega (arith, length-take (to - from) (drop from s.starts), length-drop from s.starts, task_inside, t.ready.parallel)

  pub task_parallel : length hs ≡ length ps
  task_parallel = hashes_long ∙ sym starts_long

  pub task_asc : Asc ps
  task_asc = asc_part (to - from) from s.starts t.ready.starts_asc

  pub task_near : ((i : ℕ) → get_or s.starts i 0 < 2 ^ 32) → (i : ℕ) → get_or ps i 0 < 2 ^ 32
  task_near near i = part_near (to - from) from s.starts near i

  -- m of the local items is no more than m of all
  pub task_fits : length s.query + (to - from) ≤ length s.query + length s.hashes
  task_fits = omega (arith, task_inside)

  pub task_few : length s.query + length s.hashes ≤ 65536
  task_few = omega (arith, t.ready.few_hashes, t.ready.few_items)

  module _ {w : ℕ} (is_w : w ≡ windows_per_start s) where
    pub task_asks : w < 2 ^ 32 → (xs : Items) → xs.hashes.now ≡ hs → xs.positions.now ≡ ps → Asks s.query xs w
    task_asks small xs hs_are ps_are = record {
      given = record { few = omega (arith, ap length hs_are, hashes_long, task_few, task_inside); some = t.hash; query_asc = t.ready.query_asc };
      few = omega (arith, ap length hs_are, hashes_long, task_inside, t.ready.few_items);
      some = omega (arith, is_w, t.windows);
      small = small;
      item = omega (arith, ap length ps_are, starts_long, t.bounds.item);
    }

    -- demand 3: the best of the stops is the best of all admitted starts
    by_scoring : minimizer_premises s ≡ true → best (scored_stops s) ≡ best (scored_starts s)
    unfolding minimizer_premises
    by_scoring h =
        let xs = positions (local_items s) in
        let rises = eqb (order_of ltb xs) (length xs) in
        let wide = ltb 0 (windows_per_start s) in
        let both = (and-eq-true_iff rises wide).0 ((and-eq-true_iff (rises && wide) (ltb 0 (length s.query))).0 h).0 in
        best_by_steps s (order_strict xs (omega (arith, eqb-true (order_of ltb xs) (length xs) both.0))) t.windows

    pub task_done : {r : Found} → Answers s.query (items_of hs ps) w s.range.end r → Done s r
    unfolding scored_stops stops minimizer_stats
    task_done {r} o =
        let p = subst (λ (v : ℕ). Answers s.query (local_items s) v s.range.end r) is_w (subst (λ (xs : List Item). Answers s.query xs w s.range.end r) items_are o) in
        record {
          best = p.best;
          scored = λ h. p.best ∙ by_scoring h;
          stats = λ d. record { windows = p.windows d; coords = p.coords d; items = p.items_are d };
        }

-- ---- the part of clear lists that is used

take_zeros : (n m : ℕ) → n ≤ m → take n (replicate {A = ℕ} m 0) ≡ replicate n 0
take_zeros zero m h = refl
take_zeros (suc n) zero h = absurd (not-suc-le-zero h)
take_zeros (suc n) (suc m) h = ap (λ (xs : List ℕ). 0 ∷ xs) (take_zeros n m (le_of_suc-le-suc h))

module _ (n m : ℕ) (fit : n ≤ m) {xs : List ℕ} (e : xs ≡ replicate m 0) where
  part_zero : take n xs ≡ replicate n 0
  part_zero = ap (take n) e ∙ take_zeros n m fit

  part_back : {ys : List ℕ} → ys ≡ replicate n 0 → ys ++ drop n xs ≡ replicate m 0
  part_back f = ap (λ (zs : List ℕ). zs ++ drop n xs) f ∙ zeroed_kept n xs part_zero ∙ e

module _ {m : ℕ} {hs cs is ws ss : List ℕ} (c : Clear m hs cs is ws ss) (n : ℕ) (fit : n ≤ m) where
  fit₁ : ceil64 n ≤ ceil64 m
  fit₁ = omega arith

  fit₂ : ceil64 (ceil64 n) ≤ ceil64 (ceil64 m)
  fit₂ = omega arith

  pub clear_part : Clear n (take n hs) (take n cs) (take n is) (take (ceil64 n) ws) (take (ceil64 (ceil64 n)) ss)
  clear_part = record {
    hashes = part_zero n m fit c.hashes;
    counts = part_zero n m fit c.counts;
    coords = part_zero n m fit c.coords;
    words = part_zero (ceil64 n) (ceil64 m) fit₁ c.words;
    summary = part_zero (ceil64 (ceil64 n)) (ceil64 (ceil64 m)) fit₂ c.summary;
  }

  pub part_fits : SweepFits n (length hs) (length cs) (length is) (length ws) (length ss)
  part_fits =
      let x = clear_exact c in
      record {
        hashes_fit = omega (arith, x.hashes);
        counts_fit = omega (arith, x.counts);
        coords_fit = omega (arith, x.coords);
        words_fit = omega (arith, x.words, fit₁);
        summary_fits = omega (arith, x.summary, fit₂);
      }

  pub clear_back : {hs' cs' is' ws' ss' : List ℕ} → Clear n hs' cs' is' ws' ss'
      → Clear m (hs' ++ drop n hs) (cs' ++ drop n cs) (is' ++ drop n is) (ws' ++ drop (ceil64 n) ws) (ss' ++ drop (ceil64 (ceil64 n)) ss)
  clear_back d = record {
    hashes = part_back n m fit c.hashes d.hashes;
    counts = part_back n m fit c.counts d.counts;
    coords = part_back n m fit c.coords d.coords;
    words = part_back (ceil64 n) (ceil64 m) fit₁ c.words d.words;
    summary = part_back (ceil64 (ceil64 n)) (ceil64 (ceil64 m)) fit₂ c.summary d.summary;
  }
