-- Access control points: each is one bit of a number of 32 bits.
use Rattle.std.specs.Prelude.{ℕ, Bool, ◌==◌, List, [], ◌∷◌, codes, IsTrue}
use Rattle.std.specs.Int.RustNames.{bit_and}

-- each point by its name
abbrev pub access_points : List (List ℕ × ℕ)
access_points =
    (codes "ENC", 0x0000_0001)
    ∷ (codes "DEC", 0x0000_0002)
    ∷ (codes "MGN", 0x0000_0004)
    ∷ (codes "MVR", 0x0000_0008)
    ∷ (codes "KYT", 0x0000_0010)
    ∷ (codes "CKI", 0x0000_0020)
    ∷ (codes "RNG", 0x0000_0040)
    ∷ (codes "KGN_OP", 0x0000_0080)
    ∷ (codes "KGN_PAIR", 0x0000_0100)
    ∷ (codes "KGN_OUT", 0x0000_0200)
    ∷ (codes "KIM", 0x0000_0400)
    ∷ (codes "KEX", 0x0000_0800)
    ∷ (codes "PEX", 0x0000_1000)
    ∷ (codes "KTC_CURRENT", 0x0000_2000)
    ∷ (codes "KTC_NEW", 0x0000_4000)
    ∷ (codes "KRC", 0x0000_8000)
    ∷ (codes "KRW", 0x0001_0000)
    ∷ (codes "KRR", 0x0002_0000)
    ∷ (codes "KRD", 0x0004_0000)
    ∷ (codes "KRL", 0x0008_0000)
    ∷ (codes "MK_FIRST", 0x0010_0000)
    ∷ (codes "MK_COMBINE", 0x0020_0000)
    ∷ (codes "MK_CLEAR", 0x0040_0000)
    ∷ (codes "MK_SET", 0x0080_0000)
    ∷ (codes "ROLES", 0x0100_0000)
    ∷ (codes "REENC", 0x0200_0000)
    ∷ (codes "KPI_FIRST", 0x0400_0000)
    ∷ (codes "KPI_COMBINE", 0x0800_0000)
    ∷ (codes "KTR", 0x1000_0000)
    ∷ []

-- every point together
abbrev pub every_point : ℕ
every_point = 0x1fff_ffff

-- no bit is on that isn't a point
abbrev pub are_points : ℕ → Bool
are_points bits = bit_and bits every_point == bits

-- every point that is asked is held
abbrev pub includes : ℕ → ℕ → Bool
includes held asked = bit_and held asked == asked

abbrev pub ArePoints : ℕ → Type 0
ArePoints bits = IsTrue (are_points bits)
