-- How long lists of bytes are at most: digits, texts that are enciphered and deciphered, control vectors and key tokens.
use Rattle.std.proofs.Common.{◌≡◌, ℕ, zero, suc, ◌+◌, ◌-◌, ◌*◌, ◌/◌, ◌%◌, ◌<◌, ◌≤◌, ◌==◌, Bool, true, false, List, [], ◌∷◌, ◌++◌, length, take, replicate, Option, None, Some, Result, Ok, Err, refl, ap, arith, decimal, unwrap_or, bit_xor, slice_index, length-append, length-set, length-take}
use Rattle.std.specs.Prelude.{IfSome, if◌then◌else◌}
use Rattle.std.specs.Fmt.{digits, digits_onto, digit_glyph}
use Rattle.std.specs.Int.{to_be_bytes, w32}
use Rattle.std.specs.Result.{result_unwrap_or}
use Rattle.std.proofs.lemmas.List.{length-replicate}
use Rattle.hex.specs.Hex.{decode_of}
use Rattle.hex.specs.declared.error.FromHexError.{FromHexError}
use Rattle.hex.proofs.HexLemmas.{decode_of-ok}
use Rattle.key_cells.specs.Bytes.{is_zero, xor}
use Rattle.cca_vectors.specs.Closing.{closed_half, closed_to_export, closed_zero}
use Rattle.cca_vectors.specs.DefaultVectors.{default_for}
use Rattle.cca_vectors.specs.PartVectors.{as_part, part_half, with_bit_changed}
use Rattle.cca_vectors.specs.Permissions.{is_exportable}
use Rattle.cca_vectors.specs.Vectors.{IsValid, left_of, length_of, right_of}
use Rattle.cca_vectors.specs.declared.key_length.Length.{Length}
use Rattle.cca_vectors.specs.declared.key_type.KeyType.{KeyType}
use Rattle.cca_vectors.proofs.DefaultLemmas.{default_for_valid}
use Rattle.des_blocks.specs.Modes.{added, blocks, cbc, e, joined, last_block, pad, uncbc, une, unpad, is_padded, pad_count}
use Rattle.des_blocks.specs.Texts.{cbc_text, uncbc_text}
use Rattle.des_blocks.proofs.BitLemmas.{length-pieces}
use Rattle.des_blocks.proofs.ValueLemmas.{bytes-ede}
use Rattle.multi_encipher.specs.Bundles.{transport_bundle}
use Rattle.multi_encipher.specs.Seals.{seal, sealed_half, variant_key}
use Rattle.key_tokens.specs.Denotes.{ClearKey, Denoted}
use Rattle.key_tokens.specs.Layout.{contents, layout, made, zeros}
use Rattle.key_tokens.specs.declared.key_token.Age.{Age}
use Rattle.key_tokens.specs.declared.key_token.Age.TheVariants as age
use Rattle.key_tokens.specs.declared.key_token.Token.{Token}
use Rattle.master_registers.specs.Masters.{Masters, pattern_of_master}
use Rattle.verb_rules.specs.Keys.{keys_of, master_key, master_under, sealed_token, token_for}
use Rattle.verb_script.specs.Values.{hex_value}
use Rattle.key_transport.specs.Generated.{generated_vector}
use Rattle.key_transport.specs.Tokens.{as_current, changed_token, external_token, full_bytes, new_token}
use Rattle.key_transport.specs.declared.changing.Target.{Target}
use Rattle.key_transport.specs.declared.changing.Target.TheVariants.{Current, New}
use Rattle.line_service.proofs.PartLemmas.{length-slice_range_le}
use Rattle.cipher_verbs.specs.CipherTexts.{deciphered_text, enciphered_text}
use Rattle.cipher_verbs.specs.declared.padding.Pad.{Pad}
use Rattle.cipher_verbs.specs.declared.padding.Pad.TheVariants as padding
use Rattle.text_segments.specs.Chains.{chain_bytes}
use Rattle.text_segments.specs.Segments.{at_hand, chain_after, cipher_blocks, code_cipher, last_text, segment_text, whole_part}
use Rattle.text_segments.specs.declared.chains.Chain.{Chain}
use Rattle.text_segments.specs.declared.modes.Mode.{Mode}
use Rattle.text_segments.specs.declared.modes.Mode.TheVariants.{Encipher, Decipher, Mac}
use Rattle.text_segments.proofs.BlockLemmas.{AreBlocks, blocks-eight, cbc-eight, joined_length, rest_length, whole_length}
use Rattle.text_segments.proofs.CutLaws.{e_length, une_length}
use Rattle.cca_machine.specs.Act.{or_empty}
use Rattle.cca_machine.proofs.CutReplies.{code_cipher_length}
use Rattle.cca_vectors.proofs.ClosingLemmas.{size_of_closed}

-- ---- fronts, and one of two

pub take_short : (n : ℕ) (xs : List ℕ) → length (take n xs) ≤ n
take_short n xs = omega (arith, length-take n xs)

pub either_short : (t : Bool) (one other : List ℕ) (n : ℕ) → length one ≤ n → length other ≤ n → length (if t then one else other) ≤ n
either_short true one other n first second = first
either_short false one other n first second = second

-- ---- digits

onto_short : (k n : ℕ) (acc : List ℕ) → length (digits_onto k 10 false n acc) ≤ k + length acc
onto_short zero n acc = omega arith
onto_short (suc k) n acc =
    let more = digit_glyph false (n % 10) ∷ acc in
    either_short (n / 10 == 0) more (digits_onto k 10 false (n / 10) more) (suc k + length acc) (omega arith) (omega (arith, onto_short k (n / 10) more))

-- a number has at most 64 decimal digits
pub decimal_short : (n : ℕ) → length (decimal n) ≤ 64
unfolding digits
decimal_short n = onto_short 64 n []

-- two digits make a byte
pub value_short : (text : List ℕ) → 2 * length (hex_value text) ≤ length text
value_short text = by_result (decode_of text) refl
  where
    by_result : (r : Result (List ℕ) FromHexError) → decode_of text ≡ r → 2 * length (result_unwrap_or r []) ≤ length text
    by_result (Ok bytes) is = omega (arith, (decode_of-ok text bytes is).2)
    by_result (Err e) is = omega arith

-- ---- texts

xor_short : (xs ys : List ℕ) → length (xor xs ys) ≤ length xs
unfolding xor
xor_short [] ys = omega arith
xor_short (x ∷ xs) [] = omega arith
xor_short (x ∷ xs) (y ∷ ys) = omega (arith, xor_short xs ys)

cbc-count : (e : List ℕ → List ℕ) (start : List ℕ) (bs : List (List ℕ)) → length (cbc e start bs) ≡ length bs
unfolding cbc
cbc-count e start [] = refl
cbc-count e start (b ∷ bs) = ap suc (cbc-count e (e (xor b start)) bs)

cbc_short : (key start text : List ℕ) → length (cbc_text (e key) start text) ≤ length text
cbc_short key start text =
    omega (
      arith,
      joined_length (cbc (e key) start (blocks text)) (cbc-eight (e key) (e_length key) start (blocks text)),
      cbc-count (e key) start (blocks text),
      length-pieces (length text / 8) 8 text,
    )

uncbc_joined : (d : List ℕ → List ℕ) → ((block : List ℕ) → length (d block) ≡ 8) → (start : List ℕ) (bs : List (List ℕ))
    → length (joined (uncbc d start bs)) ≤ 8 * length bs
unfolding uncbc
uncbc_joined d eight start [] = omega arith
uncbc_joined d eight start (c ∷ cs) =
    omega (arith, length-append (xor (d c) start) (joined (uncbc d c cs)), xor_short (d c) start, eight c, uncbc_joined d eight c cs)

uncbc_short : (key start text : List ℕ) → length (uncbc_text (une key) start text) ≤ length text
uncbc_short key start text = omega (arith, uncbc_joined (une key) (une_length key) start (blocks text), length-pieces (length text / 8) 8 text)

pad_short : (text : List ℕ) → length (pad text) ≤ length text + 8
unfolding pad
pad_short text =
    omega (
      arith,
      length-append (text ++ replicate (added text - 1) 0) (added text ∷ []),
      length-append text (replicate (added text - 1) 0),
      length-replicate {A = ℕ} (added text - 1) 0,
    )

unpad_short : (text : List ℕ) → length (or_empty (unpad text)) ≤ length text
unfolding unpad
unpad_short text = by_test (is_padded text)
  where
    by_test : (t : Bool) → length (or_empty (if t then Some (take (length text - pad_count text) text) else None)) ≤ length text
    by_test true = omega (arith, length-take (length text - pad_count text) text)
    by_test false = omega arith

-- a text enciphered is longer by its padding alone
pub enciphered_short : (clear : ClearKey) (start : List ℕ) (padding : Pad) (text : List ℕ) → length (enciphered_text clear start padding text) ≤ length text + 8
enciphered_short clear start padding.None text = omega (arith, cbc_short clear.key start text)
enciphered_short clear start padding.X923 text = omega (arith, cbc_short clear.key start (pad text), pad_short text)

pub deciphered_short : (clear : ClearKey) (start : List ℕ) (padding : Pad) (text : List ℕ) → length (or_empty (deciphered_text clear start padding text)) ≤ length text
deciphered_short clear start padding.None text = uncbc_short clear.key start text
deciphered_short clear start padding.X923 text = omega (arith, unpad_short (uncbc_text (une clear.key) start text), uncbc_short clear.key start text)

-- ---- texts in segments

hand_length : (chain : Chain) (text : List ℕ) → length (at_hand chain text) ≡ length chain.carried + length text
hand_length chain text = length-append chain.carried text

pub segment_short : (clear : ClearKey) (mode : Mode) (chain : Chain) (text : List ℕ) → length (segment_text clear mode chain text) ≤ length chain.carried + length text
segment_short clear Encipher chain text =
    omega (arith, cbc_short clear.key chain.block (whole_part (at_hand chain text)), whole_length (at_hand chain text), hand_length chain text)
segment_short clear Decipher chain text =
    omega (arith, uncbc_short clear.key chain.block (whole_part (at_hand chain text)), whole_length (at_hand chain text), hand_length chain text)
segment_short clear (Mac rule) chain text = omega arith

pub last_short : (clear : ClearKey) (mode : Mode) (chain : Chain) (padding : Pad) (text : List ℕ)
    → length (or_empty (last_text clear mode chain padding text)) ≤ length chain.carried + length text + 8
last_short clear Encipher chain padding text = omega (arith, enciphered_short clear chain.block padding (at_hand chain text), hand_length chain text)
last_short clear Decipher chain padding text = omega (arith, deciphered_short clear chain.block padding (at_hand chain text), hand_length chain text)
last_short clear (Mac rule) chain padding text = omega arith

last_block_short : (start : List ℕ) (bs : List (List ℕ)) → length start ≤ 8 → AreBlocks bs → length (last_block start bs) ≤ 8
last_block_short start [] short are = short
last_block_short start (b ∷ bs) short are = last_block_short b bs (omega (arith, are.0)) are.1

cipher_eight : (clear : ClearKey) (mode : Mode) (start : List ℕ) (bs : List (List ℕ)) → AreBlocks bs → AreBlocks (cipher_blocks clear mode start bs)
cipher_eight clear Encipher start bs are = cbc-eight (e clear.key) (e_length clear.key) start bs
cipher_eight clear Decipher start bs are = are
cipher_eight clear (Mac rule) start bs are = cbc-eight (code_cipher rule clear) (code_cipher_length rule clear) start bs

bytes_short : (chain : Chain) → length chain.block ≤ 8 → length chain.carried < 8 → length (chain_bytes chain) ≤ 16
bytes_short chain block carried =
    let zeros : List ℕ = replicate (7 - length chain.carried) 0 in
    omega (
      arith,
      length-append chain.block (length chain.carried ∷ chain.carried ++ zeros),
      length-append chain.carried zeros,
      length-replicate {A = ℕ} (7 - length chain.carried) 0,
      block,
      carried,
    )

-- the chain that a segment leaves has 16 bytes, where its own chain's block isn't longer than one
pub chain_short : (clear : ClearKey) (mode : Mode) (chain : Chain) (text : List ℕ) → length chain.block ≤ 8
    → length (chain_bytes (chain_after clear mode chain text)) ≤ 16
chain_short clear mode chain text block =
    let whole = whole_part (at_hand chain text) in
    bytes_short (chain_after clear mode chain text)
    (last_block_short chain.block (cipher_blocks clear mode chain.block (blocks whole)) block (cipher_eight clear mode chain.block (blocks whole) (blocks-eight whole)))
    (rest_length (at_hand chain text))

-- ---- control vectors

either_length : (t : Bool) (one other : List ℕ) (n : ℕ) → length one ≡ n → length other ≡ n → length (if t then one else other) ≡ n
either_length true one other n first second = first
either_length false one other n first second = second

pub closed_short : (vector : List ℕ) → length vector ≤ 16 → length (closed_to_export vector) ≤ 16
closed_short vector short =
    either_short (is_exportable vector) _ vector 16
    (either_short (is_zero vector) closed_zero (closed_half (left_of vector) ++ closed_half (right_of vector)) 16 (omega arith)
    (omega (
      arith,
      length-append (closed_half (left_of vector)) (closed_half (right_of vector)),
      size_of_closed (left_of vector),
      size_of_closed (right_of vector),
      length-slice_range_le vector 0 8,
      length-slice_range_le vector 8 16,
    )))
    short

part_half_length : (half : List ℕ) → length (part_half half) ≡ length half
part_half_length half =
    either_length (is_zero half) half (with_bit_changed (with_bit_changed half 44) 47) (length half) refl
    (omega (arith, length-set (with_bit_changed half 44) 5 (bit_xor (slice_index (with_bit_changed half 44) 5) 1), length-set half 5 (bit_xor (slice_index half 5) 8)))

pub part_short : (vector : List ℕ) → length (as_part vector) ≤ 16
part_short vector =
    omega (
      arith,
      length-append (part_half (left_of vector)) (part_half (right_of vector)),
      part_half_length (left_of vector),
      part_half_length (right_of vector),
      length-slice_range_le vector 0 8,
      length-slice_range_le vector 8 16,
    )

-- a vector that is valid, where there is one
valid_short : (o : Option (List ℕ)) → IfSome o IsValid → length (unwrap_or o []) ≤ 16
valid_short None valid = omega arith
valid_short (Some vector) valid = omega (arith, valid.whole)

pub vector_short : (kind : KeyType) (key_length : Length) → length (generated_vector kind key_length) ≤ 16
vector_short kind key_length = valid_short (default_for kind key_length) (default_for_valid kind key_length)

-- ---- key tokens

layout_short : (t : Token) (flag tvv : ℕ) → length t.pattern ≤ 8 → length t.sealed.left ≤ 8 → length t.sealed.right ≤ 8 → length t.vector ≤ 16
    → length (contents (layout t flag tvv)) ≤ 64
layout_short t flag tvv pattern left right vector =
    let end = zeros 12 ++ (to_be_bytes w32 tvv ++ []) in
    omega (
      arith,
      length-append t.pattern (t.sealed.left ++ (t.sealed.right ++ (t.vector ++ end))),
      length-append t.sealed.left (t.sealed.right ++ (t.vector ++ end)),
      length-append t.sealed.right (t.vector ++ end),
      length-append t.vector end,
      pattern,
      left,
      right,
      vector,
    )

made_short : (t : Token) → length t.pattern ≤ 8 → length t.sealed.left ≤ 8 → length t.sealed.right ≤ 8 → length t.vector ≤ 16 → length (made t) ≤ 64
unfolding made
made_short t = layout_short t 0xc0 _

half_length : (bundle vector half : List ℕ) → length (sealed_half bundle vector half) ≡ 8
unfolding sealed_half
half_length bundle vector half = (bytes-ede (variant_key bundle 0 vector) (variant_key bundle 1 vector) (variant_key bundle 2 vector) half).size

half_short : (bundle vector half : List ℕ) → length (sealed_half bundle vector half) ≤ 8
half_short bundle vector half = omega (arith, half_length bundle vector half)

left_short : (bundle vector key : List ℕ) → length (seal bundle vector key).left ≤ 8
unfolding seal
left_short bundle vector key = half_short bundle (left_of vector) _

right_short : (bundle vector key : List ℕ) → length (seal bundle vector key).right ≤ 8
unfolding seal
right_short bundle vector key = either_short (length_of vector == 8) (replicate 8 0) _ 8 (omega arith) (half_short bundle (right_of vector) _)

pattern_short : (bytes : List ℕ) → length (pattern_of_master bytes) ≤ 8
unfolding pattern_of_master
pattern_short bytes = take_short 8 _

sealed_short : (register : Option (List ℕ)) (clear : ClearKey) → length clear.vector ≤ 16 → length (sealed_token (master_key register) clear) ≤ 64
sealed_short None clear vector = omega arith
sealed_short (Some bytes) clear vector =
    made_short _ (pattern_short bytes) (left_short bytes clear.vector clear.key) (right_short bytes clear.vector clear.key) vector

-- a token that is written has 64 bytes, where its key's control vector has no more than 16
pub token_short : (m : Masters) (key : Denoted) → length key.clear.vector ≤ 16 → length (token_for (keys_of m) key) ≤ 64
unfolding token_for
token_short m key vector = by_age key.age
  where
    by_age : (a : Age) → length (sealed_token (master_under (keys_of m) a) key.clear) ≤ 64
    by_age age.Current = sealed_short m.current key.clear vector
    by_age age.Old = sealed_short m.former key.clear vector

pub changed_short : (m : Masters) (target : Target) (clear : ClearKey) → length clear.vector ≤ 16 → length (changed_token m target clear) ≤ 64
unfolding new_token
changed_short m Current clear vector = token_short m (as_current clear) vector
changed_short m New clear vector = sealed_short (full_bytes m.coming) clear vector

pub external_short : (transport : List ℕ) (clear : ClearKey) → length clear.vector ≤ 16 → length (external_token transport clear) ≤ 64
unfolding external_token
external_short transport clear vector =
    made_short _ (omega arith) (left_short (transport_bundle transport) clear.vector clear.key) (right_short (transport_bundle transport) clear.vector clear.key) vector
