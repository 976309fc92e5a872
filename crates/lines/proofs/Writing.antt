-- Bytes written behind bytes are both, one after the other; a word is written from its front, and digits from the last. Assumes nothing.
use Prim.Native.Nat.{ℕ, zero, suc, ◌+◌, ◌*◌, ◌/◌, ◌%◌, ◌<◌, ◌≤◌}
use mathlib.Core.Path.{◌≡◌, refl, sym, ap, ◌∙◌, subst}
use mathlib.Core.Logic.{⊎_elim}
use mathlib.Core.List.{List, [], ◌∷◌, ◌++◌, map, map-append, append_assoc, append-nil}
use native.Mathlib.Nat.{mod-eq_of_lt, mod-lt}
use native.Mathlib.Numerals.{add-one}
use native.Mathlib.Omega.{arith}
use borrow.Author.Tests.{lt-ltb, le-ltb}
use lib.ListN.{length, get_or, set, take, drop, length-append, length-drop, drop_of_length-le}
use lib.Seq.{length-take-le, take_at, drop-append-add, drop-drop, take-suc, take_all, set_at, append_snoc}
use Rattle.base.specs.Pick.{pick}
use Rattle.std.proofs.lemmas.Bool.{cases_lt}
use Rattle.base.specs.Buffers.{over}
use Rattle.base.specs.declared.Place.{Place}
use Rattle.base.specs.declared.Outcome.{Outcome}
use Rattle.base.specs.Answers.{SweepAnswer}
use Rattle.std.specs.Prelude.{Option, Some, None, Ok, Err}
use Rattle.rules.specs.Text.{text}
use Rattle.rules.specs.Job.{Job}
use Rattle.rules.specs.Lines.{digits, decimal, hex_digit, hex, line, counts_line, mapped_line, identity_line, answer_lines}
use Rattle.lines.specs.Written.{Written, Wrote, radix, digit_count, bits_line, told, lines_by}
use Rattle.lines.specs.declared.writer.Writer.{Writer}

-- ---- behind each other

module _ {at : ℕ} {a b entry mid exit : List ℕ} {r s : ℕ} where
  pub then : Written at a entry r mid → Written r b mid s exit → Written at (a ++ b) entry s exit
  then x y =
      let la = length a in
      let lb = length b in
      let both : length (a ++ b) ≡ la + lb = length-append a b in
      let front : length (take at entry ++ a) ≡ r = length-append (take at entry) a ∙ (let t = length-take-le at entry (omega (arith, x.within)) in omega (arith, t, x.next)) in
      let rest = drop (at + la) entry in
      let mid_is : mid ≡ (take at entry ++ a) ++ rest = x.is ∙ sym (append_assoc (take at entry) a rest) in
      let long : length mid ≡ length entry = ap length mid_is ∙ length-append (take at entry ++ a) rest ∙ (let d = length-drop (at + la) entry in omega (arith, d, front, x.next, x.within)) in
      let head : take r mid ≡ take at entry ++ a = ap (take r) mid_is ∙ take_at (take at entry ++ a) rest r front in
      let reach : r + lb ≡ length (take at entry ++ a) + lb = omega (arith, front) in
      let there : at + la + lb ≡ at + length (a ++ b) = omega (arith, both) in
      let tail : drop (r + lb) mid ≡ drop (at + length (a ++ b)) entry =
      ap (λ (k : ℕ). drop k mid) reach ∙ ap (drop (length (take at entry ++ a) + lb)) mid_is ∙ drop-append-add (take at entry ++ a) rest lb ∙ drop-drop lb (at + la) entry ∙
      ap (λ (k : ℕ). drop k entry) there in
      record {
        next = omega (arith, x.next, y.next, both);
        within = omega (arith, y.within, long, both, x.next);
        is =
            y.is ∙ ap (λ (l : List ℕ). l ++ (b ++ drop (r + lb) mid)) head ∙ ap (λ (l : List ℕ). (take at entry ++ a) ++ (b ++ l)) tail ∙
            append_assoc (take at entry) a (b ++ drop (at + length (a ++ b)) entry) ∙ ap (λ (l : List ℕ). take at entry ++ l) (sym (append_assoc a b (drop (at + length (a ++ b)) entry)));
      }

-- ---- one behind another, by a writer

module _ {a b : List ℕ} {x y z : Writer} where
  pub wrote_then : Wrote a x y → Wrote b y z → Wrote (a ++ b) x z
  wrote_then v w = record { written = then v.written w.written; size = w.size ∙ v.size; same = w.same ∙ v.same }

pub wrote_as : {x y : Writer} (a b : List ℕ) → a ≡ b → Wrote a x y → Wrote b x y
wrote_as {x} {y} a b e w = subst (λ (l : List ℕ). Wrote l x y) e w

-- ---- digits, from the last

pub length-radix : (base c n : ℕ) → length (radix base c n) ≡ c
unfolding radix
length-radix base zero n = refl
length-radix base (suc c) n =
    omega (arith, length-append (radix base c (n / base)) (hex_digit (n % base) ∷ []), length-radix base c (n / base))

-- a store at the seam
set_seam : (k d : ℕ) (entry rest : List ℕ) → k < length entry → set (take (suc k) entry ++ rest) k d ≡ take k entry ++ (d ∷ rest)
set_seam k d entry rest h =
    ap (λ (l : List ℕ). set (l ++ rest) k d) (take-suc entry k 0 h) ∙ ap (λ (l : List ℕ). set l k d) (append_snoc (take k entry) (get_or entry k 0) rest) ∙
    set_at (take k entry) (get_or entry k 0) rest d k (length-take-le k entry (omega arith))

pub record Writing (base at count n : ℕ) (entry now : List ℕ) (left m : ℕ) : Type 0 where
  pub tail : List ℕ
  pub upto : left ≤ count
  pub room : at + count ≤ length entry
  pub whole : radix base count n ≡ radix base left m ++ tail
  pub is : now ≡ take (at + left) entry ++ (tail ++ drop (at + count) entry)

module _ (base at count n : ℕ) (entry : List ℕ) where
  module _ {now : List ℕ} {left m : ℕ} (w : Writing base at count n entry now left m) where
    tail-length : length w.tail + left ≡ count
    tail-length = omega (arith, sym (length-radix base count n) ∙ ap length w.whole ∙ length-append (radix base left m) w.tail, length-radix base left m)

    pub writing_step : (k d : ℕ) → left ≡ k + 1 → d ≡ hex_digit (m % base) → Writing base at count n entry (set now (at + k) d) k (m / base)
    unfolding radix
    writing_step k d e h =
        let rest = w.tail ++ drop (at + count) entry in
        let place : at + left ≡ suc (at + k) = omega arith in
        let one : left ≡ suc k = omega arith in
        record {
          tail = d ∷ w.tail;
          upto = omega (arith, w.upto);
          room = w.room;
          whole =
              w.whole ∙ ap (λ (c : ℕ). radix base c m ++ w.tail) one ∙ append_snoc (radix base k (m / base)) (hex_digit (m % base)) w.tail ∙
              ap (λ (x : ℕ). radix base k (m / base) ++ (x ∷ w.tail)) (sym h);
          is =
              ap (λ (l : List ℕ). set l (at + k) d) w.is ∙ ap (λ (c : ℕ). set (take c entry ++ rest) (at + k) d) place ∙
              set_seam (at + k) d entry rest (omega (arith, w.room, w.upto));
        }

    pub writing_end : left ≤ 0 → Written at (radix base count n) entry (at + count) now
    unfolding radix
    writing_end l =
        let none : left ≡ 0 = omega arith in
        let here : at + left ≡ at = omega arith in
        let all : radix base count n ≡ w.tail = w.whole ∙ ap (λ (c : ℕ). radix base c m ++ w.tail) none in
        let long = length-radix base count n in
        let behind : at + count ≡ at + length (radix base count n) = omega arith in
        record {
          next = behind;
          within = omega (arith, w.room);
          is =
              w.is ∙ ap (λ (c : ℕ). take c entry ++ (w.tail ++ drop (at + count) entry)) here ∙
              ap (λ (l : List ℕ). take at entry ++ (l ++ drop (at + count) entry)) (sym all) ∙
              ap (λ (c : ℕ). take at entry ++ (radix base count n ++ drop c entry)) behind;
        }

-- a whole part
pub filled_digits : (base n : ℕ) (entry now : List ℕ) (m left : ℕ) → Writing base 0 (length entry) n entry now left m → left ≤ 0 → now ≡ radix base (length entry) n
filled_digits base n entry now m left w h =
    let end = writing_end base 0 (length entry) n entry w h in
    let long = length-radix base (length entry) n in
    end.is ∙ ap (λ (l : List ℕ). radix base (length entry) n ++ l) (drop_of_length-le entry (omega (arith, long))) ∙ append-nil (radix base (length entry) n)

-- ---- the rules' digits

pub hex-radix : (c n : ℕ) → hex c n ≡ radix 16 c n
unfolding hex radix
hex-radix zero n = refl
hex-radix (suc c) n = ap (λ (l : List ℕ). l ++ (hex_digit (n % 16) ∷ [])) (hex-radix c (n / 16))

small_digit : (d : ℕ) → d < 10 → hex_digit d ≡ 48 + d
unfolding hex_digit pick
small_digit d h = rw (lt-ltb d 10 h)

module _ (fuel n : ℕ) where
  pub count_one : n < 10 → digit_count (suc fuel) n ≡ 1
  unfolding digit_count
  count_one h = rw (lt-ltb n 10 h, digit_count)

  pub count_more : 10 ≤ n → digit_count (suc fuel) n ≡ suc (digit_count fuel (n / 10))
  unfolding digit_count
  count_more h = rw (le-ltb n 10 h, digit_count)

  digits_one : (rest : List ℕ) → n < 10 → digits (suc fuel) n rest ≡ (48 + n) ∷ rest
  unfolding digits
  digits_one rest h = rw (lt-ltb n 10 h, digits)

  digits_more : (rest : List ℕ) → 10 ≤ n → digits (suc fuel) n rest ≡ digits fuel (n / 10) ((48 + n % 10) ∷ rest)
  unfolding digits
  digits_more rest h = rw (le-ltb n 10 h, digits)

digits-radix : (fuel n : ℕ) (rest : List ℕ) → digits fuel n rest ≡ radix 10 (digit_count fuel n) n ++ rest
unfolding digits digit_count radix
digits-radix zero n rest = refl
digits-radix (suc fuel) n rest =
    ⊎_elim
    (λ (h : n < 10). digits_one fuel n rest h ∙ ap (λ (x : ℕ). x ∷ rest) (sym (ap hex_digit (mod-eq_of_lt h) ∙ small_digit n h)) ∙ ap (λ (c : ℕ). radix 10 c n ++ rest) (sym (count_one fuel n h)))
    (λ (h : 10 ≤ n). digits_more fuel n rest h ∙ digits-radix fuel (n / 10) ((48 + n % 10) ∷ rest) ∙
    ap (λ (x : ℕ). radix 10 (digit_count fuel (n / 10)) (n / 10) ++ (x ∷ rest)) (sym (small_digit (n % 10) (mod-lt n (omega arith)))) ∙
    sym (append_snoc (radix 10 (digit_count fuel (n / 10)) (n / 10)) (hex_digit (n % 10)) rest) ∙ ap (λ (c : ℕ). radix 10 c n ++ rest) (sym (count_more fuel n h)))
    (cases_lt n 10)

pub decimal-radix : (n : ℕ) → radix 10 (digit_count 20 n) n ≡ decimal n
unfolding decimal
decimal-radix n = sym (digits-radix 20 n [] ∙ append-nil (radix 10 (digit_count 20 n) n))

-- counting them
pub record Counting (n m count : ℕ) : Type 0 where
  pub fuel : ℕ
  pub left : count + fuel ≡ 20
  pub is : digit_count 20 n + 1 ≡ count + digit_count (suc fuel) m

pub counting_start : (n : ℕ) → Counting n n 1
counting_start n = record { fuel = 19; left = refl; is = omega arith }

module _ {n m count : ℕ} (c : Counting n m count) where
  pub counting_stop : m < 10 → count ≡ digit_count 20 n
  counting_stop h = omega (arith, c.is, count_one c.fuel m h)

  pub counting_step : count < 20 → 10 ≤ m → Counting n (m / 10) (count + 1)
  counting_step l h = go c.fuel c.left c.is
    where
      go : (fuel : ℕ) → count + fuel ≡ 20 → digit_count 20 n + 1 ≡ count + digit_count (suc fuel) m → Counting n (m / 10) (count + 1)
      go zero a b = absurd (omega arith)
      go (suc fuel) a b = record { fuel = fuel; left = omega arith; is = omega (arith, b, count_more (suc fuel) m h) }

  pub counting_end : 20 ≤ count → count ≡ digit_count 20 n
  unfolding digit_count
  counting_end l = go c.fuel c.left c.is
    where
      last : digit_count 1 m ≡ 1
      last = ⊎_elim (λ (h : m < 10). count_one 0 m h) (λ (h : 10 ≤ m). count_more 0 m h) (cases_lt m 10)

      go : (fuel : ℕ) → count + fuel ≡ 20 → digit_count 20 n + 1 ≡ count + digit_count (suc fuel) m → count ≡ digit_count 20 n
      go zero a b = omega (arith, b, last)
      go (suc fuel) a b = absurd (omega arith)

-- ---- lines

-- words, with a space before each
unfoldable pub spaced : List (List ℕ) → List ℕ
spaced [] = []
spaced (w ∷ ws) = text " " ++ (w ++ spaced ws)

pub spaced_more : (ws : List (List ℕ)) (w : List ℕ) → spaced (ws ++ (w ∷ [])) ≡ spaced ws ++ (text " " ++ w)
unfolding spaced
spaced_more [] w = ap (λ (l : List ℕ). text " " ++ l) (append-nil w)
spaced_more (x ∷ ws) w =
    ap (λ (l : List ℕ). text " " ++ (x ++ l)) (spaced_more ws w) ∙
    sym (append_assoc (text " ") (x ++ spaced ws) (text " " ++ w) ∙ ap (λ (l : List ℕ). text " " ++ l) (append_assoc x (spaced ws) (text " " ++ w)))

pub line_is : (w : List ℕ) (ws : List (List ℕ)) → (w ++ spaced ws) ++ text "\n" ≡ line w ws
unfolding line spaced
line_is w [] = ap (λ (l : List ℕ). l ++ text "\n") (append-nil w)
line_is w (x ∷ ws) =
    append_assoc w (text " " ++ (x ++ spaced ws)) (text "\n") ∙
    ap (λ (l : List ℕ). w ++ l) (append_assoc (text " ") (x ++ spaced ws) (text "\n") ∙ ap (λ (l : List ℕ). text " " ++ l) (line_is x ws))

pub line_two : (w a b : List ℕ) → ((w ++ (text " " ++ a)) ++ (text " " ++ b)) ++ text "\n" ≡ line w (a ∷ b ∷ [])
unfolding line
line_two w a b = simp append_assoc

-- the numbers so far, and one more
pub spaced_next : (numbers : List ℕ) (i : ℕ) → i < length numbers → spaced (map decimal (take (i + 1) numbers)) ≡ spaced (map decimal (take i numbers)) ++ (text " " ++ decimal (get_or numbers i 0))
spaced_next numbers i h =
    ap (λ (k : ℕ). spaced (map decimal (take k numbers))) (add-one i) ∙ ap (λ (l : List ℕ). spaced (map decimal l)) (take-suc numbers i 0 h) ∙
    ap spaced (map-append decimal (take i numbers) (get_or numbers i 0 ∷ [])) ∙ spaced_more (map decimal (take i numbers)) (decimal (get_or numbers i 0))

-- a line so far
pub record Lining (word numbers : List ℕ) (old now : Writer) (i : ℕ) : Type 0 where
  pub wrote : Wrote (word ++ spaced (map decimal (take i numbers))) old now
  pub short : now.at ≤ old.at + (length word + 21 * i)

module _ {word numbers : List ℕ} {old : Writer} where
  pub lining_start : {now : Writer} → Wrote word old now → Lining word numbers old now 0
  unfolding spaced
  lining_start w = record { wrote = wrote_as _ _ (sym (append-nil word)) w; short = omega (arith, w.written.next) }

  module _ {mid now : Writer} {i : ℕ} (l : Lining word numbers old mid i) where
    pub lining_step : i < length numbers → Wrote (text " " ++ decimal (get_or numbers i 0)) mid now → now.at ≤ mid.at + 21 → Lining word numbers old now (i + 1)
    lining_step h w s = record {
      wrote =
          wrote_as _ _
          (append_assoc word (spaced (map decimal (take i numbers))) (text " " ++ decimal (get_or numbers i 0)) ∙ ap (λ (x : List ℕ). word ++ x) (sym (spaced_next numbers i h)))
          (wrote_then l.wrote w);
      short = omega (arith, l.short);
    }

    pub lining_end : length numbers ≤ i → Wrote (text "\n") mid now → Wrote (line word (map decimal numbers)) old now
    lining_end h w =
        wrote_as _ _ (ap (λ (x : List ℕ). (word ++ spaced (map decimal x)) ++ text "\n") (take_all i numbers h) ∙ line_is word (map decimal numbers)) (wrote_then l.wrote w)

-- ---- answers

-- at the front, what is written stands over the front
pub front_over : {bytes entry exit : List ℕ} {r : ℕ} → Written 0 bytes entry r exit → (r ≡ length bytes) × (exit ≡ over bytes entry)
front_over {bytes} {entry} w =
    let here : 0 + length bytes ≡ length bytes = omega arith in
    (w.next ∙ here, w.is ∙ ap (λ (k : ℕ). bytes ++ drop k entry) here)

-- where the bits are the job's, the lines are the rules'
pub lines_are : (j : Job) (a : SweepAnswer) → lines_by j.identity_bits j.upper_bits (told a) ≡ answer_lines j a
unfolding lines_by told answer_lines bits_line identity_line
lines_are j (Err r) = refl
lines_are j (Ok o) = go o.place refl
  where
    go : (p : Option Place) → o.place ≡ p → lines_by j.identity_bits j.upper_bits (told (Ok o)) ≡ answer_lines j (Ok o)
    go None e = rw e
    go (Some p) e = rw e

-- the lines of an outcome
module _ (identities uppers : List ℕ) (o : Outcome) where
  pub none_are : o.place ≡ None → line (text "none") [] ++ counts_line o.stats ≡ lines_by identities uppers (Ok o)
  unfolding lines_by
  none_are e = rw e

  pub placed_are : (p : Place) (i u : ℕ) → o.place ≡ Some p → i ≡ get_or identities p.shared 0 → u ≡ get_or uppers p.shared 0
      → mapped_line p ++ (bits_line i u ++ counts_line o.stats) ≡ lines_by identities uppers (Ok o)
  unfolding lines_by
  placed_are p i u e a b = rw (e, a, b)
