-- The checks of the five library calls, of plain numbers and lists. Each call's checks run in number order, and the first that fails gives
-- its number and its place.
use Rattle.std.specs.Prelude.{ℕ, ◌+◌, ◌*◌, ◌/◌, ◌&&◌, List, [], ◌∷◌, length, ltb, leb, eqb}
use Rattle.base.specs.Pick.{pick}
use Rattle.base.specs.OrderChecks.{order_of}
use Rattle.base.specs.Verdicts.{Verdict, Fine, refuse, or_else}
use Rattle.rules.specs.Lists.{member, sum}
use Rattle.rules.specs.Limits.{query_limit, item_limit, group_limit, step_limit, coord_limit, minimum_limit, insert_kind}
use Rattle.base.specs.declared.Reason.TheVariants.{TooLarge, BadSetting, UnequalLengths, QueryOrder, ItemOrder, NotMember, ShortTable, ShortBuffer}

-- ceil(n/64)
abbrev pub ceil64 : ℕ → ℕ
ceil64 n = (n + 63) / 64

-- The minimizer sweep. 1: a size passes its limit. 2: k-mer or window size 0. 3: parallel lists differ in length. (Of lists, their lengths.)
abbrev pub minimizer_sizes : (query hashes starts identities uppers kmer window : ℕ) → Verdict
minimizer_sizes query hashes starts identities uppers kmer window =
    pick (ltb query_limit query) (refuse TooLarge 0)
    (pick (ltb item_limit hashes) (refuse TooLarge 0)
    (pick (ltb item_limit starts) (refuse TooLarge 0)
    (pick (eqb kmer 0) (refuse BadSetting 0)
    (pick (eqb window 0) (refuse BadSetting 0)
    (pick (eqb hashes starts)
    (pick (eqb identities uppers) Fine (refuse UnequalLengths 0)) (refuse UnequalLengths 0))))))

-- The interval sweep has a third list, the ends, and no window.
abbrev pub interval_sizes : (query hashes starts ends identities uppers kmer : ℕ) → Verdict
interval_sizes query hashes starts ends identities uppers kmer =
    pick (ltb query_limit query) (refuse TooLarge 0)
    (pick (ltb item_limit hashes) (refuse TooLarge 0)
    (pick (ltb item_limit starts) (refuse TooLarge 0)
    (pick (ltb item_limit ends) (refuse TooLarge 0)
    (pick (eqb kmer 0) (refuse BadSetting 0)
    (pick (eqb hashes starts)
    (pick (eqb hashes ends)
    (pick (eqb identities uppers) Fine (refuse UnequalLengths 0)) (refuse UnequalLengths 0)) (refuse UnequalLengths 0))))))

-- Both sweeps. 4: query not strictly ascending. 5: positions or starts descend.
abbrev pub sweep_orders : (query starts : List ℕ) → Verdict
sweep_orders query starts =
    pick (ltb (order_of ltb query) (length query)) (refuse QueryOrder (order_of ltb query))
    (pick (ltb (order_of leb starts) (length starts)) (refuse ItemOrder (order_of leb starts)) Fine)

-- 7: the distance table has fewer than k+1 entries, where k hashes are in the query.
abbrev pub sweep_table : (query entries : ℕ) → Verdict
sweep_table query entries = pick (ltb entries (query + 1)) (refuse ShortTable 0) Fine

-- 8: a work buffer is shorter than its stated need, where m = k + items.
abbrev pub sweep_needs : (m hashes counts coords words summary : ℕ) → Verdict
sweep_needs m hashes counts coords words summary =
    pick (ltb hashes m) (refuse ShortBuffer 0)
    (pick (ltb counts m) (refuse ShortBuffer 0)
    (pick (ltb coords m) (refuse ShortBuffer 0)
    (pick (ltb words (ceil64 m)) (refuse ShortBuffer 0)
    (pick (ltb summary (ceil64 (ceil64 m))) (refuse ShortBuffer 0) Fine))))

-- 8: event keys, twice the items (interval sweep only).
abbrev pub keys_need : (items keys : ℕ) → Verdict
keys_need items keys = pick (ltb keys (2 * items)) (refuse ShortBuffer 0) Fine

-- 1 to 7 of the minimizer sweep; of the table's two lists the lengths
unfoldable pub minimizer_input : (query hashes starts : List ℕ) (identities uppers kmer window : ℕ) → Verdict
minimizer_input query hashes starts identities uppers kmer window =
    or_else (minimizer_sizes (length query) (length hashes) (length starts) identities uppers kmer window)
    (or_else (sweep_orders query starts)
    (sweep_table (length query) identities))

-- 1 to 7 of the interval sweep
unfoldable pub interval_input : (query hashes starts ends : List ℕ) (identities uppers kmer : ℕ) → Verdict
interval_input query hashes starts ends identities uppers kmer =
    or_else (interval_sizes (length query) (length hashes) (length starts) (length ends) identities uppers kmer)
    (or_else (sweep_orders query starts)
    (sweep_table (length query) identities))

-- The script. 1: a size passes its limit, or there is no coordinate. 3: parallel lists differ in length.
abbrev pub script_sizes : (query coords indexes kinds : ℕ) → Verdict
script_sizes query coords indexes kinds =
    pick (ltb query_limit query) (refuse TooLarge 0)
    (pick (ltb coord_limit coords) (refuse TooLarge 0)
    (pick (eqb coords 0) (refuse TooLarge 0)
    (pick (ltb step_limit indexes) (refuse TooLarge 0)
    (pick (ltb step_limit kinds) (refuse TooLarge 0)
    (pick (eqb indexes kinds) Fine (refuse UnequalLengths 0))))))

-- 4: query empty, or not strictly ascending. 5: coordinates not strictly ascending.
abbrev pub script_orders : (query coords : List ℕ) → Verdict
script_orders query coords =
    pick (eqb (length query) 0) (refuse QueryOrder 0)
    (pick (ltb (order_of ltb query) (length query)) (refuse QueryOrder (order_of ltb query))
    (pick (ltb (order_of ltb coords) (length coords)) (refuse ItemOrder (order_of ltb coords)) Fine))

-- the index of the first query hash missing from the coordinates, or the length
unfoldable pub first_missing : List ℕ → List ℕ → ℕ
first_missing coords [] = 0
first_missing coords (h ∷ hs) = pick (member h coords) (1 + first_missing coords hs) 0

-- the index of the first step whose index is past the n coordinates, or whose kind is neither delete nor insert, or the length
unfoldable pub first_bad_step : ℕ → List ℕ → List ℕ → ℕ
first_bad_step n [] kinds = 0
first_bad_step n (i ∷ is) [] = 0
first_bad_step n (i ∷ is) (k ∷ ks) = pick (ltb i n && leb k insert_kind) (1 + first_bad_step n is ks) 0

-- 6: the query, then the steps in order.
abbrev pub script_members : (query coords indexes kinds : List ℕ) → Verdict
script_members query coords indexes kinds =
    pick (ltb (first_missing coords query) (length query)) (refuse NotMember (first_missing coords query))
    (pick (ltb (first_bad_step (length coords) indexes kinds) (length indexes)) (refuse NotMember (first_bad_step (length coords) indexes kinds))
    Fine)

-- 8: in a script m is its coordinates; the two output lists want one entry per step.
abbrev pub script_needs : (m steps counts words summary pivots shareds : ℕ) → Verdict
script_needs m steps counts words summary pivots shareds =
    pick (ltb counts m) (refuse ShortBuffer 0)
    (pick (ltb words (ceil64 m)) (refuse ShortBuffer 0)
    (pick (ltb summary (ceil64 (ceil64 m))) (refuse ShortBuffer 0)
    (pick (ltb pivots steps) (refuse ShortBuffer 0)
    (pick (ltb shareds steps) (refuse ShortBuffer 0) Fine))))

-- 1 to 6 of the script
unfoldable pub script_input : (query coords indexes kinds : List ℕ) → Verdict
script_input query coords indexes kinds =
    or_else (script_sizes (length query) (length coords) (length indexes) (length kinds))
    (or_else (script_orders query coords)
    (script_members query coords indexes kinds))

-- The minimizer finder. 1: a size passes its limit. 2: minimum hits 0 or above its limit.
abbrev pub minimizer_finder_sizes : (contigs starts groups minimum : ℕ) → Verdict
minimizer_finder_sizes contigs starts groups minimum =
    pick (ltb item_limit contigs) (refuse TooLarge 0)
    (pick (ltb item_limit starts) (refuse TooLarge 0)
    (pick (ltb group_limit groups) (refuse TooLarge 0)
    (pick (eqb minimum 0) (refuse BadSetting 0)
    (pick (ltb minimum_limit minimum) (refuse BadSetting 0) Fine))))

-- 3: parallel lists differ in length, or group lengths don't sum to the hits.
abbrev pub minimizer_finder_lengths : (contigs starts total : ℕ) → Verdict
minimizer_finder_lengths contigs starts total =
    pick (eqb contigs starts)
    (pick (eqb total contigs) Fine (refuse UnequalLengths 0)) (refuse UnequalLengths 0)

-- The interval finder has a third list, the ends.
abbrev pub interval_finder_sizes : (contigs starts ends groups minimum : ℕ) → Verdict
interval_finder_sizes contigs starts ends groups minimum =
    pick (ltb item_limit contigs) (refuse TooLarge 0)
    (pick (ltb item_limit starts) (refuse TooLarge 0)
    (pick (ltb item_limit ends) (refuse TooLarge 0)
    (pick (ltb group_limit groups) (refuse TooLarge 0)
    (pick (eqb minimum 0) (refuse BadSetting 0)
    (pick (ltb minimum_limit minimum) (refuse BadSetting 0) Fine)))))

-- 3: the same, of three lists.
abbrev pub interval_finder_lengths : (contigs starts ends total : ℕ) → Verdict
interval_finder_lengths contigs starts ends total =
    pick (eqb contigs starts)
    (pick (eqb contigs ends)
    (pick (eqb total contigs) Fine (refuse UnequalLengths 0)) (refuse UnequalLengths 0)) (refuse UnequalLengths 0)

-- 8: one key per hit, and candidate lists of one record per hit; a record is an entry of three parallel lists.
abbrev pub finder_needs : (hits keys contigs starts ends : ℕ) → Verdict
finder_needs hits keys contigs starts ends =
    pick (ltb keys hits) (refuse ShortBuffer 0)
    (pick (ltb contigs hits) (refuse ShortBuffer 0)
    (pick (ltb starts hits) (refuse ShortBuffer 0)
    (pick (ltb ends hits) (refuse ShortBuffer 0) Fine)))

-- 8: the interval finder wants keys for ends too, one per hit.
abbrev pub end_keys_need : (hits end_keys : ℕ) → Verdict
end_keys_need hits end_keys = pick (ltb end_keys hits) (refuse ShortBuffer 0) Fine

-- 1 to 3 of the minimizer finder
unfoldable pub minimizer_finder_input : (contigs starts groups : List ℕ) (minimum : ℕ) → Verdict
minimizer_finder_input contigs starts groups minimum =
    or_else (minimizer_finder_sizes (length contigs) (length starts) (length groups) minimum)
    (minimizer_finder_lengths (length contigs) (length starts) (sum groups))

-- 1 to 3 of the interval finder
unfoldable pub interval_finder_input : (contigs starts ends groups : List ℕ) (minimum : ℕ) → Verdict
interval_finder_input contigs starts ends groups minimum =
    or_else (interval_finder_sizes (length contigs) (length starts) (length ends) (length groups) minimum)
    (interval_finder_lengths (length contigs) (length starts) (length ends) (sum groups))
