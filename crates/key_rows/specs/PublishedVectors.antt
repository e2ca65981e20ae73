-- Answers of DES and triple DES that others published: a key, a block, and what the block is enciphered to under the key.
use Rattle.std.specs.Prelude.{◌≡◌, ⊤, ℕ, List, [], ◌∷◌}
use Rattle.des_blocks.specs.Bits.{bits}
use Rattle.des_blocks.specs.Des.{des, undes}

pub record Vector : Type 0 where
  pub key : ℕ
  pub block : ℕ
  pub answer : ℕ

abbrev pub vector : ℕ → ℕ → ℕ → Vector
vector key block answer = record { key = key; block = block; answer = answer }

-- the block is enciphered to the answer, and the answer is deciphered to the block
pub record IsAnswered (v : Vector) : Type 0 where
  pub forth : des (bits 64 v.key) (bits 64 v.block) ≡ bits 64 v.answer
  pub back : undes (bits 64 v.key) (bits 64 v.answer) ≡ bits 64 v.block

abbrev pub AreAnswered : List Vector → Type 0
AreAnswered [] = ⊤
AreAnswered (v ∷ vs) = IsAnswered v × AreAnswered vs

-- the substitution table vectors of NIST SP 800-17, which together reach every entry of every S-box
abbrev pub single_vectors : List Vector
single_vectors =
    vector 0x7ca110454a1a6e57 0x01a1d6d039776742 0x690f5b0d9a26939b
    ∷ vector 0x0131d9619dc1376e 0x5cd54ca83def57da 0x7a389d10354bd271
    ∷ vector 0x07a1133e4a0b2686 0x0248d43806f67172 0x868ebb51cab4599a
    ∷ vector 0x3849674c2602319e 0x51454b582ddf440a 0x7178876e01f19b2a
    ∷ vector 0x04b915ba43feb5b6 0x42fd443059577fa2 0xaf37fb421f8c4095
    ∷ vector 0x0113b970fd34f2ce 0x059b5e0851cf143a 0x86a560f10ec6d85b
    ∷ vector 0x0170f175468fb5e6 0x0756d8e0774761d2 0x0cd3da020021dc09
    ∷ vector 0x43297fad38e373fe 0x762514b829bf486a 0xea676b2cb7db2b7a
    ∷ vector 0x07a7137045da2a16 0x3bdd119049372802 0xdfd64a815caf1a0f
    ∷ vector 0x04689104c2fd3b2f 0x26955f6835af609a 0x5c513c9c4886c088
    ∷ vector 0x37d06bb516cb7546 0x164d5e404f275232 0x0a2aeeae3ff4ab77
    ∷ vector 0x1f08260d1ac2465e 0x6b056e18759f5cca 0xef1bf03e5dfa575a
    ∷ vector 0x584023641aba6176 0x004bd6ef09176062 0x88bf0db6d70dee56
    ∷ vector 0x025816164629b007 0x480d39006ee762f2 0xa1f9915541020b56
    ∷ vector 0x49793ebc79b3258f 0x437540c8698f3cfa 0x6fbf1cafcffd0556
    ∷ vector 0x4fb05e1515ab73a7 0x072d43a077075292 0x2f22e49bab7ca1ac
    ∷ vector 0x49e95d6d4ca229bf 0x02fe55778117f12a 0x5a6b612cc26cce4a
    ∷ vector 0x018310dc409b26d6 0x1d9d5c5018f728c2 0x5f4c038ed12b2e41
    ∷ vector 0x1c587f1c13924fef 0x305532286d6f295a 0x63fac0d034d9f793
    ∷ []

-- the same under the three keys of the example of NIST SP 800-67: enciphered under the first, deciphered under the second,
-- enciphered under the third
abbrev pub under_three : ℕ → List ℕ
under_three block =
    des (bits 64 0x456789abcdef0123)
    (undes (bits 64 0x23456789abcdef01) (des (bits 64 0x0123456789abcdef) (bits 64 block)))

pub record TripleAnswered : Type 0 where
  pub first : under_three 0x5468652071756663 ≡ bits 64 0xa826fd8ce53b855f
  pub second : under_three 0x6b2062726f776e20 ≡ bits 64 0xcce21c8112256fe6
  pub third : under_three 0x666f78206a756d70 ≡ bits 64 0x68d5c05dd9b6b900
