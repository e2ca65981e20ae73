-- The circuits of the S-boxes as data. Written by tools/circuits/write.
use Rattle.std.proofs.Common.{◌≡◌, ℕ, true, List, [], ◌∷◌, refl}
use Rattle.des_blocks.specs.Bits.{bits, number}
use Rattle.des_blocks.specs.Des.{look_up}
use Rattle.des_blocks.specs.Tables.{s1, s2, s3, s4, s5, s6, s7, s8}
use Rattle.des_blocks.proofs.GatherLemmas.{same}
use Rattle.des_core.proofs.CircuitLemmas.{Gate, And, Or, Xor, But, Not, box_holds}

abbrev pub circuit_1 : List Gate
circuit_1 =
    Xor 5 2 ∷ And 0 5 ∷ Xor 5 0 ∷ But 7 0 ∷ Xor 3 0 ∷ But 8 0 ∷ But 0 11 ∷ Xor 2 0 ∷ And 0 8 ∷ Xor 6 0 ∷
    Xor 14 10 ∷ Or 3 0 ∷ Not 16 ∷ But 2 11 ∷ Xor 13 0 ∷ But 0 20 ∷ Xor 3 0 ∷ But 0 20 ∷ Xor 6 0 ∷ And 0 20 ∷
    Xor 10 0 ∷ Xor 15 20 ∷ Xor 9 0 ∷ Or 12 18 ∷ And 0 24 ∷ Xor 28 0 ∷ But 0 27 ∷ Xor 4 0 ∷ Xor 7 22 ∷ And 17 0 ∷
    Or 7 30 ∷ And 36 0 ∷ Or 0 33 ∷ Xor 3 0 ∷ But 0 36 ∷ Xor 7 0 ∷ Xor 10 21 ∷ Xor 26 0 ∷ But 23 35 ∷ Xor 8 0 ∷
    But 0 41 ∷ Xor 3 0 ∷ But 19 31 ∷ Xor 17 45 ∷ And 25 0 ∷ Or 0 46 ∷ Xor 3 0 ∷ And 0 52 ∷ Xor 6 0 ∷ But 28 8 ∷
    Xor 38 0 ∷ Or 16 50 ∷ Xor 7 0 ∷ But 0 56 ∷ Xor 3 0 ∷ But 56 34 ∷ Xor 24 0 ∷ Xor 29 50 ∷ But 0 58 ∷ Xor 2 0 ∷
    Or 0 64 ∷ Xor 6 0 ∷ []

abbrev pub outs_1 : List ℕ
outs_1 = 26 ∷ 13 ∷ 0 ∷ 41 ∷ []

pub holds-1 : box_holds s1 circuit_1 outs_1 ≡ true
unfolding box_holds same look_up bits number
holds-1 = refl

abbrev pub circuit_2 : List Gate
circuit_2 =
    Xor 4 0 ∷ But 2 6 ∷ Xor 1 0 ∷ And 7 3 ∷ But 2 0 ∷ Or 0 8 ∷ Xor 3 0 ∷ Not 2 ∷ Not 9 ∷ And 13 12 ∷
    Xor 1 0 ∷ And 0 16 ∷ Xor 4 0 ∷ Or 0 15 ∷ Xor 7 0 ∷ Xor 14 17 ∷ And 19 17 ∷ Xor 1 0 ∷ Xor 0 5 ∷ Or 18 0 ∷
    And 0 25 ∷ Xor 3 0 ∷ But 8 1 ∷ Xor 18 0 ∷ Xor 3 14 ∷ But 0 26 ∷ Xor 2 0 ∷ Or 0 27 ∷ Xor 6 0 ∷ Xor 0 4 ∷
    Xor 4 15 ∷ But 0 35 ∷ Xor 2 0 ∷ And 5 37 ∷ Xor 25 0 ∷ But 0 34 ∷ Xor 13 0 ∷ But 0 39 ∷ Xor 3 0 ∷ Or 0 44 ∷
    Xor 7 0 ∷ Or 20 41 ∷ But 0 45 ∷ Xor 32 0 ∷ But 44 10 ∷ Or 0 50 ∷ Xor 2 0 ∷ But 50 6 ∷ Xor 20 0 ∷ But 43 26 ∷
    Or 14 0 ∷ But 0 55 ∷ Xor 3 0 ∷ But 0 55 ∷ Xor 7 0 ∷ []

abbrev pub outs_2 : List ℕ
outs_2 = 26 ∷ 40 ∷ 0 ∷ 14 ∷ []

pub holds-2 : box_holds s2 circuit_2 outs_2 ≡ true
unfolding box_holds same look_up bits number
holds-2 = refl

abbrev pub circuit_3 : List Gate
circuit_3 =
    Xor 5 1 ∷ Xor 0 3 ∷ And 0 3 ∷ Xor 6 0 ∷ And 0 7 ∷ Xor 4 0 ∷ But 2 11 ∷ Xor 9 0 ∷ But 0 12 ∷ Xor 3 0 ∷
    Xor 9 14 ∷ Not 0 ∷ And 0 15 ∷ Xor 4 0 ∷ But 0 16 ∷ Xor 15 0 ∷ And 0 16 ∷ Xor 7 0 ∷ Xor 5 20 ∷ Not 11 ∷
    Or 0 25 ∷ Xor 2 0 ∷ But 25 4 ∷ Or 0 27 ∷ Xor 2 0 ∷ Xor 2 24 ∷ And 5 0 ∷ Xor 22 25 ∷ And 0 33 ∷ Xor 27 0 ∷
    And 0 34 ∷ Xor 4 0 ∷ Or 0 32 ∷ Xor 8 0 ∷ Xor 32 34 ∷ But 40 32 ∷ But 36 0 ∷ But 0 40 ∷ Xor 3 0 ∷ Xor 35 41 ∷
    Or 0 40 ∷ Xor 38 0 ∷ But 0 46 ∷ Xor 4 0 ∷ Xor 40 48 ∷ Or 14 50 ∷ Or 0 47 ∷ Xor 2 0 ∷ Or 4 51 ∷ But 28 0 ∷
    But 44 28 ∷ But 0 52 ∷ Xor 2 0 ∷ Or 0 53 ∷ Xor 6 0 ∷ []

abbrev pub outs_3 : List ℕ
outs_3 = 0 ∷ 37 ∷ 21 ∷ 11 ∷ []

pub holds-3 : box_holds s3 circuit_3 outs_3 ≡ true
unfolding box_holds same look_up bits number
holds-3 = refl

abbrev pub circuit_4 : List Gate
circuit_4 =
    Or 4 1 ∷ And 0 4 ∷ Xor 6 0 ∷ Or 4 5 ∷ Xor 1 0 ∷ And 8 6 ∷ But 8 0 ∷ Xor 5 9 ∷ Not 0 ∷ But 0 13 ∷
    Xor 3 0 ∷ But 0 11 ∷ Xor 7 0 ∷ Xor 5 6 ∷ Or 9 16 ∷ Xor 19 0 ∷ Or 0 16 ∷ Xor 3 0 ∷ Or 2 6 ∷ And 21 20 ∷
    Xor 1 0 ∷ But 0 24 ∷ Xor 4 0 ∷ But 0 28 ∷ Xor 11 0 ∷ But 25 14 ∷ Xor 23 0 ∷ Xor 8 30 ∷ Xor 12 0 ∷ Or 0 30 ∷
    Xor 3 0 ∷ Or 18 22 ∷ Xor 12 0 ∷ But 11 33 ∷ Xor 29 0 ∷ But 0 39 ∷ Xor 3 0 ∷ Or 0 42 ∷ Xor 7 0 ∷ And 2 44 ∷
    Xor 9 0 ∷ Xor 16 18 ∷ Xor 47 0 ∷ []

abbrev pub outs_4 : List ℕ
outs_4 = 18 ∷ 0 ∷ 4 ∷ 2 ∷ []

pub holds-4 : box_holds s4 circuit_4 outs_4 ≡ true
unfolding box_holds same look_up bits number
holds-4 = refl

abbrev pub circuit_5 : List Gate
circuit_5 =
    But 0 2 ∷ Or 0 6 ∷ Xor 2 0 ∷ But 5 6 ∷ Xor 1 0 ∷ Xor 8 5 ∷ Or 2 0 ∷ But 0 12 ∷ Xor 10 0 ∷ Or 0 13 ∷
    Xor 5 0 ∷ And 15 13 ∷ Not 0 ∷ But 17 13 ∷ Xor 13 0 ∷ And 0 18 ∷ Xor 3 0 ∷ Xor 0 20 ∷ But 0 8 ∷ But 0 24 ∷
    Xor 3 0 ∷ But 0 22 ∷ Xor 11 0 ∷ Xor 17 27 ∷ But 24 3 ∷ Or 0 27 ∷ Xor 2 0 ∷ Xor 8 30 ∷ Or 14 0 ∷ And 0 34 ∷
    Xor 3 0 ∷ Xor 22 31 ∷ Or 35 0 ∷ And 0 34 ∷ Xor 3 0 ∷ Xor 11 26 ∷ And 26 37 ∷ Xor 1 0 ∷ But 20 39 ∷ And 2 41 ∷
    Xor 1 0 ∷ But 24 2 ∷ Or 0 47 ∷ Xor 44 0 ∷ And 0 48 ∷ Xor 4 0 ∷ But 0 46 ∷ Xor 9 0 ∷ Or 13 43 ∷ Xor 13 0 ∷
    Or 25 27 ∷ And 18 0 ∷ Or 0 53 ∷ Xor 3 0 ∷ But 5 43 ∷ Xor 47 0 ∷ Or 21 47 ∷ Xor 45 0 ∷ And 0 62 ∷ Xor 3 0 ∷
    Or 0 60 ∷ Xor 7 0 ∷ []

abbrev pub outs_5 : List ℕ
outs_5 = 0 ∷ 27 ∷ 14 ∷ 39 ∷ []

pub holds-5 : box_holds s5 circuit_5 outs_5 ≡ true
unfolding box_holds same look_up bits number
holds-5 = refl

abbrev pub circuit_6 : List Gate
circuit_6 =
    Xor 3 2 ∷ But 6 4 ∷ Or 0 2 ∷ Xor 2 0 ∷ Xor 9 7 ∷ Or 1 10 ∷ And 0 6 ∷ Xor 2 0 ∷ And 0 9 ∷ Xor 5 0 ∷
    Xor 0 5 ∷ Xor 16 12 ∷ And 0 12 ∷ Xor 2 0 ∷ Xor 15 14 ∷ Xor 2 0 ∷ And 0 18 ∷ Xor 3 0 ∷ But 0 22 ∷ Xor 9 0 ∷
    Or 5 22 ∷ Xor 16 0 ∷ Not 24 ∷ And 6 28 ∷ And 0 27 ∷ Xor 2 0 ∷ Or 0 26 ∷ Xor 5 0 ∷ Xor 0 10 ∷ But 34 0 ∷
    But 26 0 ∷ But 0 33 ∷ Xor 2 0 ∷ Or 0 37 ∷ Xor 6 0 ∷ But 14 36 ∷ Xor 28 0 ∷ But 33 28 ∷ Xor 11 0 ∷ But 0 44 ∷
    Xor 3 0 ∷ But 40 9 ∷ Xor 15 0 ∷ But 0 47 ∷ Xor 3 0 ∷ But 0 17 ∷ Xor 26 0 ∷ But 19 13 ∷ Or 0 49 ∷ Xor 2 0 ∷
    Or 28 40 ∷ Or 16 43 ∷ Xor 6 0 ∷ And 0 53 ∷ Xor 3 0 ∷ Or 0 60 ∷ Xor 6 0 ∷ []

abbrev pub outs_6 : List ℕ
outs_6 = 22 ∷ 0 ∷ 37 ∷ 12 ∷ []

pub holds-6 : box_holds s6 circuit_6 outs_6 ≡ true
unfolding box_holds same look_up bits number
holds-6 = refl

abbrev pub circuit_7 : List Gate
circuit_7 =
    Xor 5 1 ∷ But 4 0 ∷ Not 1 ∷ Or 0 5 ∷ Xor 2 0 ∷ But 6 8 ∷ Or 11 0 ∷ Or 2 8 ∷ But 0 10 ∷ Xor 2 0 ∷
    But 0 10 ∷ Xor 6 0 ∷ Or 5 12 ∷ Xor 10 13 ∷ But 0 3 ∷ But 0 18 ∷ Xor 3 0 ∷ But 5 17 ∷ Xor 19 0 ∷ Or 0 21 ∷
    Xor 3 0 ∷ Or 0 25 ∷ Xor 10 0 ∷ Xor 27 26 ∷ Xor 24 0 ∷ But 28 29 ∷ Xor 27 0 ∷ Or 0 29 ∷ Xor 3 0 ∷ Or 2 28 ∷
    Xor 6 32 ∷ And 4 0 ∷ And 0 32 ∷ Xor 3 0 ∷ And 0 39 ∷ Xor 6 0 ∷ But 26 3 ∷ Xor 25 0 ∷ And 19 43 ∷ But 0 42 ∷
    Xor 2 0 ∷ And 37 44 ∷ And 6 0 ∷ And 11 43 ∷ Xor 1 0 ∷ Or 0 49 ∷ Xor 5 0 ∷ Xor 8 49 ∷ Xor 26 34 ∷ Not 0 ∷
    Or 0 55 ∷ Xor 3 0 ∷ Xor 9 42 ∷ But 33 0 ∷ But 0 54 ∷ Xor 25 0 ∷ And 0 59 ∷ Xor 5 0 ∷ []

abbrev pub outs_7 : List ℕ
outs_7 = 35 ∷ 11 ∷ 0 ∷ 22 ∷ []

pub holds-7 : box_holds s7 circuit_7 outs_7 ≡ true
unfolding box_holds same look_up bits number
holds-7 = refl

abbrev pub circuit_8 : List Gate
circuit_8 =
    Xor 2 0 ∷ But 1 3 ∷ Or 3 0 ∷ But 0 7 ∷ Xor 3 0 ∷ Xor 9 6 ∷ Not 2 ∷ Or 0 7 ∷ Xor 2 0 ∷ But 0 12 ∷
    Xor 5 0 ∷ But 0 11 ∷ Xor 15 0 ∷ But 16 10 ∷ Xor 5 0 ∷ But 0 17 ∷ Xor 3 0 ∷ But 18 6 ∷ Xor 20 0 ∷ And 0 23 ∷
    Xor 3 0 ∷ Or 0 26 ∷ Xor 11 0 ∷ Or 25 24 ∷ Or 21 28 ∷ Xor 1 0 ∷ Xor 2 30 ∷ And 26 0 ∷ Or 0 31 ∷ Xor 3 0 ∷
    And 0 35 ∷ Xor 20 0 ∷ Xor 4 35 ∷ But 15 33 ∷ Or 0 38 ∷ Xor 2 0 ∷ But 33 23 ∷ Xor 30 0 ∷ But 0 43 ∷ Xor 3 0 ∷
    And 15 31 ∷ And 0 46 ∷ Xor 35 0 ∷ And 0 45 ∷ Xor 4 0 ∷ Xor 17 46 ∷ And 28 51 ∷ Xor 51 0 ∷ But 0 51 ∷ Xor 3 0 ∷
    But 55 34 ∷ Or 29 55 ∷ Xor 1 0 ∷ And 0 53 ∷ Xor 4 0 ∷ []

abbrev pub outs_8 : List ℕ
outs_8 = 32 ∷ 10 ∷ 0 ∷ 23 ∷ []

pub holds-8 : box_holds s8 circuit_8 outs_8 ≡ true
unfolding box_holds same look_up bits number
holds-8 = refl
