-- Chains by DES alone: enciphering from halves to halves, and both directions under a key.
use Rattle.std.proofs.Common.{◌≡◌, ℕ, ◌+◌, ◌-◌, ◌*◌, ◌/◌, ◌<◌, List, ◌++◌, length, take, drop, get_or, refl, ap, ◌∙◌, subst, sym}
use Rattle.std.specs.Int.{from_be_bytes, to_be_bytes, w64}
use Rattle.key_cells.specs.declared.schedules.Schedule.{Schedule}
use Rattle.des_blocks.specs.Bits.{AreBytes, bits, byte_bits, pieces, xor}
use Rattle.des_blocks.specs.Des.{places}
use Rattle.des_blocks.specs.Halves.{AreHalves}
use Rattle.des_blocks.specs.Modes.{blocks, cbc, joined}
use Rattle.des_blocks.specs.Schedules.{IsOf, deciphered_under, enciphered_under}
use Rattle.des_blocks.specs.Tables.{initial_permutation}
use Rattle.des_blocks.specs.Texts.{cbc_text, put_at, uncbc_text}
use Rattle.des_blocks.specs.TripleDes.{deciphered, enciphered}
use Rattle.des_blocks.proofs.ByteLemmas.{byte_bits-to_be_bytes, small-to_be_bytes}
use Rattle.des_blocks.proofs.ClearKeyLemmas.{cbc-same, uncbc-same}
use Rattle.des_core.proofs.ChainLemmas.{cbc-done, cbc-step-as, start-bytes, text-begun, text-more}
use Rattle.des_core.proofs.MacLemmas.{bytes-of_enciphered, deciphered-key, enciphered-key}

-- two words hold the halves after IP of the block before the next one, and the chain goes on from it
pub record Going (e : List ℕ → List ℕ) (left right n i : ℕ) (text : List ℕ) (out : List (List ℕ)) : Type 0 where
  pub last : List ℕ
  pub bytes : AreBytes 8 last
  pub halves : AreHalves left right (places initial_permutation (byte_bits last))
  pub value : pieces i 8 text ++ cbc e last (pieces (n - i) 8 (drop (8 * i) text)) ≡ out

pub going-begun : (e : List ℕ → List ℕ) (left right n word : ℕ) (start text : List ℕ) → length start ≡ 8 → ((i : ℕ) → get_or start i 0 < 256) → word ≡ from_be_bytes w64 start → length text / 8 ≡ n
    → AreHalves left right (places initial_permutation (bits 64 word)) → Going e left right n 0 text (cbc e start (blocks text))
going-begun e left right n word start text long small is count are = record {
  last = to_be_bytes w64 word;
  bytes = record { size = refl; each = small-to_be_bytes word };
  halves = subst (λ xs. AreHalves left right (places initial_permutation xs)) (sym (byte_bits-to_be_bytes word)) are;
  value = text-begun n text (cbc e (to_be_bytes w64 word)) count ∙ ap (λ chain. cbc e chain (blocks text)) (start-bytes start word long small is);
}

pub going-more : (keys : Schedule) (left right next_left next_right n i : ℕ) (text new : List ℕ) (out : List (List ℕ)) → i < n → length text ≡ 8 * n
    → (going : Going (enciphered_under keys) left right n i text out)
    → new ≡ put_at text (8 * i) (enciphered_under keys (xor (take 8 (drop (8 * i) text)) going.last))
    → AreHalves next_left next_right (places initial_permutation (byte_bits (enciphered_under keys (xor (take 8 (drop (8 * i) text)) going.last))))
    → Going (enciphered_under keys) next_left next_right n (i + 1) new out
going-more keys left right next_left next_right n i text new out h long going put are =
    let e = enciphered_under keys in
    let p = take 8 (drop (8 * i) text) in
    let b = e (xor p going.last) in
    let bytes = bytes-of_enciphered keys (xor p going.last) in
    record {
      last = b;
      bytes = bytes;
      halves = are;
      value = subst (λ t. pieces (i + 1) 8 t ++ cbc e b (pieces (n - (i + 1)) 8 (drop (8 * (i + 1)) t)) ≡ out) (sym put)
          (text-more n i text b (cbc e going.last) (cbc e b) out h long bytes.size (cbc-step-as e going.last p b refl) going.value);
    }

pub going-done : (e : List ℕ → List ℕ) (left right n i : ℕ) (text : List ℕ) (out : List (List ℕ)) → i ≡ n → length text ≡ 8 * n → Going e left right n i text out → text ≡ joined out
going-done e left right n i text out all long going = cbc-done e going.last n i text out all long going.value

-- ---- under a key

pub cbc-key : (schedule : Schedule) (key start text : List ℕ) → IsOf schedule key → cbc_text (enciphered_under schedule) start text ≡ cbc_text (enciphered key) start text
cbc-key schedule key start text of = ap joined (cbc-same (enciphered_under schedule) (enciphered key) (λ x. enciphered-key schedule key x of) start (blocks text))

pub uncbc-key : (schedule : Schedule) (key start text : List ℕ) → IsOf schedule key → uncbc_text (deciphered_under schedule) start text ≡ uncbc_text (deciphered key) start text
uncbc-key schedule key start text of = ap joined (uncbc-same (deciphered_under schedule) (deciphered key) (λ x. deciphered-key schedule key x of) start (blocks text))
