-- The six stages of the transposition: their masks, and that together they exchange rows and columns.
use Rattle.std.proofs.Common.{◌≡◌, ℕ, ◌-◌, ◌%◌, ◌/◌, ◌<◌, ◌^◌, Bool, true, ◌&&◌, nat_eq, nat_lt, List, [], ◌∷◌, get_or, refl, ap, ◌∙◌, arith}
use Rattle.std.specs.Int.{bit_at}
use Rattle.std.proofs.lemmas.Bool.Decides.{nat_tests}
use Rattle.des_blocks.proofs.GatherLemmas.{all_below, from-all_below, nat-same}
use Rattle.des_core.specs.Lanes.{bit_of}
use Rattle.des_core.specs.Stages.{IsStage, with_bit}
use Rattle.std.proofs.lemmas.Bool.{and_parts}

-- ---- the masks

abbrev is_column : ℕ → ℕ → ℕ → Bool
is_column apart mask c = nat_eq (bit_at mask c) (1 - c / apart % 2)

stage-of : (k mask : ℕ) → k < 6 → all_below (is_column (2 ^ k) mask) 64 ≡ true → IsStage (2 ^ k) mask
stage-of k mask h all = record {
  power = (k, h, refl);
  columns = λ c l. nat-same (bit_at mask c) (1 - c / 2 ^ k % 2) (from-all_below (is_column (2 ^ k) mask) 64 c all l);
}

pub stage-32 : IsStage 32 4294967295
stage-32 = stage-of 5 4294967295 (omega arith) refl

pub stage-16 : IsStage 16 281470681808895
stage-16 = stage-of 4 281470681808895 (omega arith) refl

pub stage-8 : IsStage 8 71777214294589695
stage-8 = stage-of 3 71777214294589695 (omega arith) refl

pub stage-4 : IsStage 4 1085102592571150095
stage-4 = stage-of 2 1085102592571150095 (omega arith) refl

pub stage-2 : IsStage 2 3689348814741910323
stage-2 = stage-of 1 3689348814741910323 (omega arith) refl

pub stage-1 : IsStage 1 6148914691236517205
stage-1 = stage-of 0 6148914691236517205 (omega arith) refl

-- ---- rows and columns

-- where the stages at some powers, the last one first, take a bit of a row and a column from: from this row and column, by rows and columns below 64
abbrev ends : List ℕ → ℕ → ℕ → ℕ → ℕ → Bool
ends [] x y r c = nat_eq r x && nat_eq c y
ends (apart ∷ more) x y r c =
    let row = with_bit apart r c in
    let column = with_bit apart c r in
    nat_lt row 64 && (nat_lt column 64 && ends more x y row column)

row_ends : ℕ → Bool
row_ends r = all_below (λ c. ends (1 ∷ 2 ∷ 4 ∷ 8 ∷ 16 ∷ 32 ∷ []) c r r c) 64

all-ends : all_below row_ends 64 ≡ true
unfolding row_ends
all-ends = refl

ends-at : (r c : ℕ) → r < 64 → c < 64 → ends (1 ∷ 2 ∷ 4 ∷ 8 ∷ 16 ∷ 32 ∷ []) c r r c ≡ true
unfolding row_ends
ends-at r c h k = from-all_below (λ d. ends (1 ∷ 2 ∷ 4 ∷ 8 ∷ 16 ∷ 32 ∷ []) d r r d) 64 c (from-all_below row_ends 64 r all-ends h) k

-- one stage back
record Back (apart : ℕ) (more : List ℕ) (x y r c : ℕ) : Type 0 where
  pub row : with_bit apart r c < 64
  pub column : with_bit apart c r < 64
  pub rest : ends more x y (with_bit apart r c) (with_bit apart c r) ≡ true

back : (apart : ℕ) (more : List ℕ) (x y r c : ℕ) → ends (apart ∷ more) x y r c ≡ true → Back apart more x y r c
back apart more x y r c h =
    let row = with_bit apart r c in
    let column = with_bit apart c r in
    let one = and_parts (nat_lt row 64) (nat_lt column 64 && ends more x y row column) h in
    let two = and_parts (nat_lt column 64) (ends more x y row column) one.1 in
    record { row = grind (arith, nat_tests, one.0); column = grind (arith, nat_tests, two.0); rest = two.1 }

-- what a stage does
abbrev pub Exchanges : ℕ → List (List ℕ) → List (List ℕ) → Type 0
Exchanges apart old new = (e r c : ℕ) → e < 2 → r < 64 → c < 64 → bit_of e c (get_or new r []) ≡ bit_of e (with_bit apart c r) (get_or old (with_bit apart r c) [])

pub transposed : (w0 w1 w2 w3 w4 w5 w6 : List (List ℕ)) → Exchanges 32 w0 w1 → Exchanges 16 w1 w2 → Exchanges 8 w2 w3 → Exchanges 4 w3 w4 → Exchanges 2 w4 w5 → Exchanges 1 w5 w6
    → (e r c : ℕ) → e < 2 → r < 64 → c < 64 → bit_of e c (get_or w6 r []) ≡ bit_of e r (get_or w0 c [])
transposed w0 w1 w2 w3 w4 w5 w6 s32 s16 s8 s4 s2 s1 e r c h hr hc =
    let b1 = back 1 (2 ∷ 4 ∷ 8 ∷ 16 ∷ 32 ∷ []) c r r c (ends-at r c hr hc) in
    let r1 = with_bit 1 r c in
    let c1 = with_bit 1 c r in
    let b2 = back 2 (4 ∷ 8 ∷ 16 ∷ 32 ∷ []) c r r1 c1 b1.rest in
    let r2 = with_bit 2 r1 c1 in
    let c2 = with_bit 2 c1 r1 in
    let b4 = back 4 (8 ∷ 16 ∷ 32 ∷ []) c r r2 c2 b2.rest in
    let r3 = with_bit 4 r2 c2 in
    let c3 = with_bit 4 c2 r2 in
    let b8 = back 8 (16 ∷ 32 ∷ []) c r r3 c3 b4.rest in
    let r4 = with_bit 8 r3 c3 in
    let c4 = with_bit 8 c3 r3 in
    let b16 = back 16 (32 ∷ []) c r r4 c4 b8.rest in
    let r5 = with_bit 16 r4 c4 in
    let c5 = with_bit 16 c4 r4 in
    let b32 = back 32 [] c r r5 c5 b16.rest in
    let r6 = with_bit 32 r5 c5 in
    let c6 = with_bit 32 c5 r5 in
    let last = and_parts (nat_eq r6 c) (nat_eq c6 r) b32.rest in
    let row : r6 ≡ c = nat-same r6 c last.0 in
    let column : c6 ≡ r = nat-same c6 r last.1 in
    s1 e r c h hr hc ∙ s2 e r1 c1 h b1.row b1.column ∙ s4 e r2 c2 h b2.row b2.column ∙ s8 e r3 c3 h b4.row b4.column ∙ s16 e r4 c4 h b8.row b8.column ∙ s32 e r5 c5 h b16.row b16.column
    ∙ ap (λ n. bit_of e n (get_or w0 r6 [])) column ∙ ap (λ n. bit_of e r (get_or w0 n [])) row
