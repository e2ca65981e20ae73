-- From the bits of a block to its bytes, under a schedule that holds a key.
use Rattle.std.proofs.Common.{◌≡◌, ℕ, ◌<◌, List, reverse, ap, sym, ◌∙◌}
use Rattle.std.specs.List.{All}
use Rattle.key_cells.specs.declared.schedules.Schedule.{Schedule}
use Rattle.des_blocks.specs.Bits.{bits, byte_bits, to_bytes}
use Rattle.des_blocks.specs.Des.{crypt, decipher, encipher}
use Rattle.des_blocks.specs.Schedules.{AreOf, IsOf, ded_under, ede_under, keys_of, schedule_at}
use Rattle.des_blocks.specs.TripleDes.{ded, deciphered, ede, enciphered}
use Rattle.des_blocks.proofs.ByteLemmas.{to_bytes-byte_bits}
use Rattle.des_blocks.proofs.ValueLemmas.{crypted, crypted-bits}

pub enciphered-is : (schedule : Schedule) (key block result : List ℕ) → All (λ b. b < 256) result → byte_bits result ≡ encipher (keys_of schedule) (byte_bits block)
    → IsOf schedule key → result ≡ enciphered key block
unfolding enciphered
enciphered-is schedule key block result small bits of =
    sym (to_bytes-byte_bits result small) ∙ ap to_bytes (bits ∙ ap (λ keys. encipher keys (byte_bits block)) of)

pub deciphered-is : (schedule : Schedule) (key block result : List ℕ) → All (λ b. b < 256) result → byte_bits result ≡ decipher (keys_of schedule) (byte_bits block)
    → IsOf schedule key → result ≡ deciphered key block
unfolding deciphered
deciphered-is schedule key block result small bits of =
    sym (to_bytes-byte_bits result small) ∙ ap to_bytes (bits ∙ ap (λ keys. decipher keys (byte_bits block)) of)

enciphered-bits : (keys : List (List ℕ)) (block : List ℕ) → byte_bits (to_bytes (crypt keys (byte_bits block))) ≡ crypt keys (byte_bits block)
unfolding crypted
enciphered-bits keys block = crypted-bits keys block

pub ede-same_bytes : (keys : List Schedule) (a b c block : List ℕ) → AreOf keys a b c → to_bytes (ede_under keys (byte_bits block)) ≡ ede a b c block
unfolding ede enciphered deciphered ede_under
ede-same_bytes keys a b c block of =
    let one = keys_of (schedule_at keys 0) in
    let two = reverse (keys_of (schedule_at keys 1)) in
    let three = keys_of (schedule_at keys 2) in
    let first = to_bytes (crypt one (byte_bits block)) in
    ap to_bytes (sym (ap (crypt three) (enciphered-bits two first ∙ ap (crypt two) (enciphered-bits one block))))
    ∙ ap (λ ks. to_bytes (crypt ks (byte_bits (to_bytes (crypt two (byte_bits first)))))) of.third
    ∙ ap (λ ks. enciphered c (to_bytes (crypt (reverse ks) (byte_bits first)))) of.second
    ∙ ap (λ ks. enciphered c (deciphered b (to_bytes (crypt ks (byte_bits block))))) of.first

pub ded-same_bytes : (keys : List Schedule) (a b c block : List ℕ) → AreOf keys a b c → to_bytes (ded_under keys (byte_bits block)) ≡ ded a b c block
unfolding ded enciphered deciphered ded_under
ded-same_bytes keys a b c block of =
    let one = reverse (keys_of (schedule_at keys 0)) in
    let two = keys_of (schedule_at keys 1) in
    let three = reverse (keys_of (schedule_at keys 2)) in
    let first = to_bytes (crypt three (byte_bits block)) in
    ap to_bytes (sym (ap (crypt one) (enciphered-bits two first ∙ ap (crypt two) (enciphered-bits three block))))
    ∙ ap (λ ks. to_bytes (crypt (reverse ks) (byte_bits (to_bytes (crypt two (byte_bits first)))))) of.first
    ∙ ap (λ ks. deciphered a (to_bytes (crypt ks (byte_bits first)))) of.second
    ∙ ap (λ ks. deciphered a (enciphered b (to_bytes (crypt (reverse ks) (byte_bits block))))) of.third

pub ede-is : (keys : List Schedule) (a b c block result : List ℕ) → All (λ x. x < 256) result → byte_bits result ≡ ede_under keys (byte_bits block)
    → AreOf keys a b c → result ≡ ede a b c block
ede-is keys a b c block result small is of = sym (to_bytes-byte_bits result small) ∙ ap to_bytes is ∙ ede-same_bytes keys a b c block of

pub ded-is : (keys : List Schedule) (a b c block result : List ℕ) → All (λ x. x < 256) result → byte_bits result ≡ ded_under keys (byte_bits block)
    → AreOf keys a b c → result ≡ ded a b c block
ded-is keys a b c block result small is of = sym (to_bytes-byte_bits result small) ∙ ap to_bytes is ∙ ded-same_bytes keys a b c block of
