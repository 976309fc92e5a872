-- Jobs at the edges: each refusal of a job file with its offset, and their order within one field; limits just met; and failed reads.
use Rattle.std.specs.Prelude.{ℕ, ◌≡◌, refl, true, List, [], ◌∷◌, ◌++◌, map, take, drop, set, replicate}
use Rattle.rules.specs.Text.{text}
use Rattle.rules.specs.Lines.{said}
use Rattle.rules.specs.Computes.{computes}
use Rattle.rules.specs.Examples.{Row, prints, list, job_b2}

-- the first n bytes of B2's job, then others
abbrev pub job_to : ℕ → List ℕ → List ℕ
job_to n bytes = take n job_b2 ++ bytes

-- the job with others put in at n
abbrev pub job_in : ℕ → List ℕ → List ℕ
job_in n bytes = take n job_b2 ++ (bytes ++ drop n job_b2)

-- the job with one byte changed
abbrev pub job_with : ℕ → ℕ → List ℕ
job_with at byte = set job_b2 at byte

-- a row of the program where reading failed after these bytes
abbrev pub fails : List ℕ → List ℕ → Row
fails job lines = record { given = list (said true job); wanted = list lines }

-- Jobs. B2's fields stand at 0 (01), 4 (02), 8 (03), 31 (05), 50 (06), 113 (07) and 164 (FF).
pub jobs : List Row
jobs =
    -- 11: a byte too long
    prints (replicate 65536 0) "refused 11 0\n" ∷
    -- 12: empty; no FF; a header cut; data cut; FF's length cut
    prints [] "refused 12 0\n" ∷
    prints (job_to 164 []) "refused 12 164\n" ∷
    prints (job_to 52 []) "refused 12 50\n" ∷
    prints (job_to 112 []) "refused 12 50\n" ∷
    prints (job_to 166 []) "refused 12 164\n" ∷
    -- 13: unknown tag; 0 is one
    prints (job_in 164 (0x08 ∷ 0x00 ∷ 0x00 ∷ [])) "refused 13 164\n" ∷
    prints (job_with 0 0) "refused 13 0\n" ∷
    -- 14: FF first; 06 missing before FF, and before 07; 05 repeated; 02 after 03
    prints (0xff ∷ 0x00 ∷ 0x00 ∷ []) "refused 14 0\n" ∷
    prints (job_to 50 (0xff ∷ 0x00 ∷ 0x00 ∷ [])) "refused 14 50\n" ∷
    prints (job_to 50 (drop 113 job_b2)) "refused 14 50\n" ∷
    prints (job_in 50 (0x05 ∷ 0x00 ∷ 0x00 ∷ [])) "refused 14 50\n" ∷
    prints (job_in 31 (0x02 ∷ 0x01 ∷ 0x00 ∷ 0x00 ∷ [])) "refused 14 31\n" ∷
    -- 15: version 2; mode 2; settings of 19 bytes; 60 bytes are no whole intervals; a byte in FF
    prints (job_with 3 2) "refused 15 0\n" ∷
    prints (job_with 7 2) "refused 15 4\n" ∷
    prints (job_with 9 19) "refused 15 8\n" ∷
    prints (job_with 7 1) "refused 15 50\n" ∷
    prints (job_to 164 (0xff ∷ 0x01 ∷ 0x00 ∷ 0x00 ∷ [])) "refused 15 164\n" ∷
    -- 16: 513 query hashes; 2,049 items, and 2,048 in one field and one in the next; 514 estimates
    prints (job_to 31 (0x05 ∷ 0x08 ∷ 0x10 ∷ replicate 4104 0)) "refused 16 31\n" ∷
    prints (job_to 50 (0x06 ∷ 0x0c ∷ 0x60 ∷ replicate 24588 0)) "refused 16 50\n" ∷
    prints (job_to 50 (0x06 ∷ 0x00 ∷ 0x60 ∷ (replicate 24576 0 ++ (0x06 ∷ 0x0c ∷ 0x00 ∷ replicate 12 0)))) "refused 16 24629\n" ∷
    prints (job_to 113 (0x07 ∷ 0x20 ∷ 0x20 ∷ replicate 8224 0)) "refused 16 113\n" ∷
    -- 512 query hashes, 2,048 items, 513 estimates: no file refusal (their bytes are all 0)
    prints (job_to 31 (0x05 ∷ 0x00 ∷ 0x10 ∷ (replicate 4096 0 ++ drop 50 job_b2))) "refused 4 1\n" ∷
    prints (job_to 50 (0x06 ∷ 0x00 ∷ 0x60 ∷ (replicate 24576 0 ++ drop 113 job_b2))) "none\ncounts 0 3 2048\n" ∷
    prints (job_to 113 (0x07 ∷ 0x10 ∷ 0x20 ∷ (replicate 8208 0 ++ (0xff ∷ 0x00 ∷ 0x00 ∷ [])))) "mapped 8 17 2 2\nidentity 0000000000000000 0000000000000000\ncounts 5 4 5\n" ∷
    -- 17: a byte after FF
    prints (job_to 167 (0x00 ∷ [])) "refused 17 167\n" ∷
    -- within one field: 12 before 13, 13 before 14, 14 before 15, 15 before 16
    prints (job_to 164 (0x08 ∷ 0x01 ∷ 0x00 ∷ [])) "refused 12 164\n" ∷
    prints (job_in 164 (0x00 ∷ 0x00 ∷ 0x00 ∷ [])) "refused 13 164\n" ∷
    prints (job_in 4 (0x01 ∷ 0x02 ∷ 0x00 ∷ 0x01 ∷ 0x01 ∷ [])) "refused 14 4\n" ∷
    prints (job_to 31 (0x05 ∷ 0x09 ∷ 0x10 ∷ replicate 4105 0)) "refused 15 31\n" ∷
    -- then the library's checks: k-mer 0, window 0, query 20, 20, positions 0, 4, 3, two estimates
    prints (job_with 11 0) "refused 2 0\n" ∷
    prints (job_with 15 0) "refused 2 0\n" ∷
    prints (job_with 42 20) "refused 4 1\n" ∷
    prints (job_with 85 3) "refused 5 2\n" ∷
    prints (job_to 113 (0x07 ∷ 0x20 ∷ 0x00 ∷ (replicate 32 0 ++ (0xff ∷ 0x00 ∷ 0x00 ∷ [])))) "refused 7 0\n" ∷
    -- an empty 06 joined to another; an empty contig; a minimum identity of 150
    prints (job_in 50 (0x06 ∷ 0x00 ∷ 0x00 ∷ [])) "mapped 8 17 2 2\nidentity 4059000000000000 4059000000000000\ncounts 5 4 5\n" ∷
    prints (job_to 50 (0x06 ∷ 0x00 ∷ 0x00 ∷ drop 113 job_b2)) "none\ncounts 0 0 0\n" ∷
    prints (job_in 31 (0x04 ∷ 0x08 ∷ 0x00 ∷ 0x00 ∷ 0x00 ∷ 0x00 ∷ 0x00 ∷ 0x00 ∷ 0xc0 ∷ 0x62 ∷ 0x40 ∷ [])) "none\ncounts 5 4 5\n" ∷
    -- a NaN's payload is printed as it stood
    prints (set (set (set job_b2 148 1) 154 0xf8) 155 0x7f) "mapped 8 17 2 2\nidentity 7ff8000000000001 4059000000000000\ncounts 5 4 5\n" ∷
    -- reading failed: the bytes' own refusal, or that a whole job was not seen to end
    fails [] (text "refused 12 0\n") ∷
    fails (job_to 112 []) (text "refused 12 50\n") ∷
    fails (job_with 3 2) (text "refused 15 0\n") ∷
    fails job_b2 (text "refused 12 167\n") ∷
    fails (job_to 50 (0x06 ∷ 0x00 ∷ 0x00 ∷ drop 113 job_b2)) (text "refused 12 107\n") ∷
    []

-- every job prints so
pub jobs_hold : map (λ (r : Row). r.given) jobs ≡ map (λ (r : Row). r.wanted) jobs
unfolding jobs computes
jobs_hold = refl
