-- What the machine puts into hexadecimal fields are bytes, each below 256: what digits spell, what ciphers and codes give,
-- control vectors and tokens.
use Rattle.std.proofs.Common.{◌≡◌, ℕ, zero, suc, ◌-◌, ◌*◌, ◌/◌, ◌<◌, Bool, true, false, List, [], ◌∷◌, ◌++◌, length, set, take, drop, replicate, get_or, Option, None, Some, refl, arith}
use Rattle.std.specs.Prelude.{⊤, bit_xor, nat_lt, unwrap_or, IfSome, if◌then◌else◌, Result, Ok, Err}
use Rattle.std.specs.Int.{bytes_high_first, to_be_bytes, w32}
use Rattle.std.specs.List.{All, list_all, slice_range}
use Rattle.std.specs.Result.{result_unwrap_or}
use Rattle.std.proofs.lemmas.Bool.{ltb-true}
use Rattle.std.proofs.lemmas.List.{length-drop}
use Rattle.std.proofs.lemmas.List.Elements.{All-append, All-cons, All-drop, All-head, All-map, All-nil, All-replicate, All-set, All-tail, All-take}
use Rattle.std.proofs.lemmas.List.Sums.{AllPass-from_list_all}
use Rattle.std.proofs.lemmas.Nat.{xor_of_8}
use Rattle.hex.specs.Hex.{decode_of}
use Rattle.hex.specs.declared.error.FromHexError.{FromHexError}
use Rattle.hex.proofs.HexLemmas.{decode_of-ok}
use Rattle.sha1.specs.Sha1.{digest_bytes, hash_after, padded_message, sha1}
use Rattle.key_cells.specs.Bytes.{is_zero, xor}
use Rattle.key_cells.proofs.ByteLemmas.{are_bytes}
use Rattle.cca_vectors.specs.Bits.{even_byte}
use Rattle.cca_vectors.specs.Closing.{closed_byte, closed_half, closed_to_export, closed_zero}
use Rattle.cca_vectors.specs.DefaultVectors.{default_for, default_vector}
use Rattle.cca_vectors.specs.PartVectors.{as_part, part_half, with_bit_changed}
use Rattle.cca_vectors.specs.Permissions.{is_exportable}
use Rattle.cca_vectors.specs.Vectors.{IsValid, left_of, right_of}
use Rattle.cca_vectors.specs.declared.key_length.Length.{Length}
use Rattle.cca_vectors.specs.declared.key_type.KeyType.{KeyType}
use Rattle.cca_vectors.proofs.DefaultLemmas.{default_for_valid, default_valid}
use Rattle.cipher_verbs.specs.CipherTexts.{deciphered_text, enciphered_text, padded, unpadded}
use Rattle.cipher_verbs.specs.RandomBytes.{in_form}
use Rattle.cipher_verbs.specs.declared.padding.Pad.{Pad}
use Rattle.cipher_verbs.specs.declared.padding.Pad.TheVariants as padding
use Rattle.cipher_verbs.specs.declared.random.RandomForm.{RandomForm}
use Rattle.cipher_verbs.specs.declared.random.RandomForm.TheVariants.{Random, Odd, Even}
use Rattle.verb_rules.specs.Parity.{odd_byte}
use Rattle.des_blocks.specs.Bits.{pieces}
use Rattle.des_blocks.specs.Modes.{blocks, cbc, cbc_mac, e, fill, is_padded, joined, last_block, mac_x99, pad_count, unpad, uncbc, une, zero_block}
use Rattle.des_blocks.specs.Texts.{cbc_text, uncbc_text}
use Rattle.des_blocks.specs.TripleDes.{deciphered, ded, ede, enciphered}
use Rattle.des_blocks.proofs.ValueLemmas.{bytes-deciphered, bytes-ded, bytes-ede, bytes-enciphered}
use Rattle.key_tokens.specs.Denotes.{ClearKey, Denoted, MasterKey, MasterKeys, clear_of, denoted, denoted_or, denoted_under, is_token}
use Rattle.key_tokens.specs.Layout.{Place, contents, layout, made}
use Rattle.key_tokens.specs.Kinds.{kind_byte}
use Rattle.key_tokens.specs.Tvv.{tvv_of}
use Rattle.key_tokens.specs.declared.key_token.Age.{Age}
use Rattle.key_tokens.specs.declared.key_token.Age.TheVariants as age
use Rattle.key_tokens.specs.declared.key_token.Asked.TheVariants as asked
use Rattle.key_tokens.specs.declared.key_token.Kind.{Kind}
use Rattle.key_tokens.specs.declared.key_token.Kind.TheVariants.{Internal, External}
use Rattle.key_tokens.specs.declared.key_token.Token.{Token}
use Rattle.key_transport.specs.Generated.{generated_vector, vector_for}
use Rattle.key_transport.specs.Tokens.{changed_token, external_token, full_bytes, new_token}
use Rattle.key_transport.specs.declared.changing.Target.{Target}
use Rattle.key_transport.specs.declared.changing.Target.TheVariants.{Current, New}
use Rattle.mac_verbs.specs.Codes.{code_of}
use Rattle.master_registers.specs.Masters.{Masters, pattern_of_master}
use Rattle.multi_encipher.specs.Bundles.{transport_bundle}
use Rattle.multi_encipher.specs.Seals.{seal, sealed_half}
use Rattle.multi_encipher.proofs.SealLaws.{bytes-sealed_half}
use Rattle.text_segments.specs.Chains.{chain_bytes}
use Rattle.text_segments.specs.Segments.{at_hand, chain_after, cipher_blocks, code_cipher, last_code, last_text, rest_part, segment_text, whole_part}
use Rattle.text_segments.specs.declared.chains.Chain.{Chain}
use Rattle.text_segments.specs.declared.modes.Mode.{Mode}
use Rattle.text_segments.specs.declared.modes.Mode.TheVariants.{Encipher, Decipher, Mac}
use Rattle.verb_rules.specs.Keys.{keys_of, master_key, sealed_token, token_for}
use Rattle.verb_rules.specs.declared.lengths.MacRule.{MacRule}
use Rattle.verb_rules.specs.declared.lengths.MacRule.TheVariants.{X99, X919}
use Rattle.verb_script.specs.Values.{hex_value}

-- ---- lists of bytes

abbrev pub IsByte : ℕ → Type 0
IsByte b = b < 256

abbrev pub Bytes : List ℕ → Type 0
Bytes xs = All IsByte xs

-- bytes that are written out
pub literal : (xs : List ℕ) → list_all (λ b. nat_lt b 256) xs ≡ true → Bytes xs
literal xs is k d within = ltb-true _ 256 (AllPass-from_list_all (λ b. nat_lt b 256) xs is k d within)

pub none : Bytes []
none = All-nil IsByte

pub joins : (xs ys : List ℕ) → Bytes xs → Bytes ys → Bytes (xs ++ ys)
joins = All-append IsByte

pub takes : (n : ℕ) (xs : List ℕ) → Bytes xs → Bytes (take n xs)
takes = All-take IsByte

pub drops : (n : ℕ) (xs : List ℕ) → Bytes xs → Bytes (drop n xs)
drops = All-drop IsByte

pub slices : (xs : List ℕ) (from to : ℕ) → Bytes xs → Bytes (slice_range xs from to)
slices xs from to are = takes _ (drop from xs) (drops from xs are)

pub zeros : (n : ℕ) → Bytes (replicate n 0)
zeros n = All-replicate IsByte n 0 (omega arith)

element : (xs : List ℕ) (k : ℕ) → Bytes xs → get_or xs k 0 < 256
element [] k are = omega arith
element (x ∷ xs) zero are = All-head IsByte x xs are
element (x ∷ xs) (suc k) are = element xs k (All-tail IsByte x xs are)

pub bytes_xor : (xs ys : List ℕ) → Bytes xs → Bytes ys → Bytes (xor xs ys)
unfolding xor
bytes_xor [] ys first second = none
bytes_xor (x ∷ xs) [] first second = none
bytes_xor (x ∷ xs) (y ∷ ys) first second =
    All-cons IsByte (bit_xor x y) (xor xs ys) (xor_of_8 x y (All-head IsByte x xs first) (All-head IsByte y ys second))
    (bytes_xor xs ys (All-tail IsByte x xs first) (All-tail IsByte y ys second))

pub either : (t : Bool) (one other : List ℕ) → Bytes one → Bytes other → Bytes (if t then one else other)
either true one other first second = first
either false one other first second = second

-- what digits spell
pub bytes_hex : (digits : List ℕ) → Bytes (hex_value digits)
bytes_hex digits = by_result (decode_of digits) refl
  where
    by_result : (r : Result (List ℕ) FromHexError) → decode_of digits ≡ r → Bytes (result_unwrap_or r [])
    by_result (Ok bytes) is = are_bytes bytes (decode_of-ok digits bytes is).3
    by_result (Err error) is = none

-- the bytes of a number
high_first : (k n : ℕ) → Bytes (bytes_high_first k n)
high_first zero n = none
high_first (suc zero) n = All-cons IsByte _ [] (omega arith) none
high_first (suc (suc k)) n = All-cons IsByte _ (bytes_high_first (suc k) n) (omega arith) (high_first (suc k) n)

digest : (words : List ℕ) (n : ℕ) → Bytes (digest_bytes words n)
unfolding digest_bytes
digest words zero = none
digest words (suc n) = joins (digest_bytes words n) (to_be_bytes w32 (get_or words n 0)) (digest words n) (high_first 4 (get_or words n 0))

bytes_pattern : (master : List ℕ) → Bytes (pattern_of_master master)
unfolding pattern_of_master sha1
bytes_pattern master =
    let message : List ℕ = padded_message (1 ∷ master) in
    takes 8 (sha1 (1 ∷ master)) (digest (hash_after message (length message / 64)) 5)

-- random bytes in a form
pub bytes_form : (form : RandomForm) (drawn : List ℕ) → Bytes drawn → Bytes (in_form form drawn)
bytes_form Random drawn are = are
bytes_form Odd drawn are = All-map IsByte odd_byte drawn (λ k d within. odd (get_or drawn k d) (are k d within))
  where
    odd : (b : ℕ) → b < 256 → odd_byte b < 256
    odd b small = omega arith
bytes_form Even drawn are = All-map IsByte even_byte drawn (λ k d within. even (get_or drawn k d) (are k d within))
  where
    even : (b : ℕ) → b < 256 → even_byte b < 256
    even b small = omega arith

-- ---- ciphers and codes

bytes_e : (key block : List ℕ) → Bytes (e key block)
unfolding e
bytes_e key block = either _ (enciphered key block) (ede (take 8 key) (drop 8 key) (take 8 key) block) (bytes-enciphered key block).each (bytes-ede _ _ _ block).each

bytes_une : (key block : List ℕ) → Bytes (une key block)
unfolding une
bytes_une key block = either _ (deciphered key block) (ded (take 8 key) (drop 8 key) (take 8 key) block) (bytes-deciphered key block).each (bytes-ded _ _ _ block).each

-- the front of an enciphered block
pub bytes_front : (n : ℕ) (key block : List ℕ) → Bytes (take n (e key block))
bytes_front n key block = takes n (e key block) (bytes_e key block)

-- blocks of bytes
abbrev AreBlocks : List (List ℕ) → Type 0
AreBlocks [] = ⊤
AreBlocks (b ∷ bs) = Bytes b × AreBlocks bs

bytes_joined : (bs : List (List ℕ)) → AreBlocks bs → Bytes (joined bs)
bytes_joined [] are = none
bytes_joined (b ∷ bs) are = joins b (joined bs) are.0 (bytes_joined bs are.1)

bytes_pieces : (count size : ℕ) (xs : List ℕ) → Bytes xs → AreBlocks (pieces count size xs)
unfolding pieces
bytes_pieces zero size xs are = tt
bytes_pieces (suc count) size xs are = (takes size xs are, bytes_pieces count size (drop size xs) (drops size xs are))

bytes_last : (start : List ℕ) (bs : List (List ℕ)) → Bytes start → AreBlocks bs → Bytes (last_block start bs)
bytes_last start [] first are = first
bytes_last start (b ∷ bs) first are = bytes_last b bs are.0 are.1

module _ (cipher : List ℕ → List ℕ) (gives : (block : List ℕ) → Bytes (cipher block)) where
  bytes_cbc : (start : List ℕ) (bs : List (List ℕ)) → AreBlocks (cbc cipher start bs)
  unfolding cbc
  bytes_cbc start [] = tt
  bytes_cbc start (b ∷ bs) = (gives (xor b start), bytes_cbc (cipher (xor b start)) bs)

  bytes_uncbc : (start : List ℕ) (bs : List (List ℕ)) → Bytes start → AreBlocks bs → AreBlocks (uncbc cipher start bs)
  unfolding uncbc
  bytes_uncbc start [] first are = tt
  bytes_uncbc start (b ∷ bs) first are = (bytes_xor (cipher b) start (gives b) first, bytes_uncbc b bs are.0 are.1)

  bytes_cbc_text : (start text : List ℕ) → Bytes (cbc_text cipher start text)
  bytes_cbc_text start text = bytes_joined (cbc cipher start (blocks text)) (bytes_cbc start (blocks text))

  bytes_uncbc_text : (start text : List ℕ) → Bytes start → Bytes text → Bytes (uncbc_text cipher start text)
  bytes_uncbc_text start text first are = bytes_joined (uncbc cipher start (blocks text)) (bytes_uncbc start (blocks text) first (bytes_pieces _ 8 text are))

  bytes_code : (text : List ℕ) → Bytes (cbc_mac cipher text)
  unfolding cbc_mac
  bytes_code text = bytes_last zero_block _ (zeros 8) (bytes_cbc zero_block (blocks (fill text)))

pub bytes_enciphered : (clear : ClearKey) (start : List ℕ) (pad : Pad) (text : List ℕ) → Bytes (enciphered_text clear start pad text)
bytes_enciphered clear start pad text = bytes_cbc_text (e clear.key) (bytes_e clear.key) start (padded pad text)

-- bytes, where there are some
abbrev pub AreSome : Option (List ℕ) → Type 0
AreSome None = ⊤
AreSome (Some bytes) = Bytes bytes

bytes_unpadded : (pad : Pad) (text : List ℕ) → Bytes text → AreSome (unpadded pad text)
unfolding unpad
bytes_unpadded padding.None text are = are
bytes_unpadded padding.X923 text are = by_test (is_padded text)
  where
    by_test : (t : Bool) → AreSome (if t then Some (take (length text - pad_count text) text) else None)
    by_test true = takes (length text - pad_count text) text are
    by_test false = tt

pub bytes_deciphered : (clear : ClearKey) (start : List ℕ) (pad : Pad) (text : List ℕ) → Bytes start → Bytes text → AreSome (deciphered_text clear start pad text)
bytes_deciphered clear start pad text first are =
    bytes_unpadded pad (uncbc_text (une clear.key) start text) (bytes_uncbc_text (une clear.key) (bytes_une clear.key) start text first are)

pub bytes_code_of : (rule : MacRule) (clear : ClearKey) (text : List ℕ) → Bytes (code_of rule clear text)
bytes_code_of X99 clear text = bytes_code (enciphered clear.key) (λ block. (bytes-enciphered clear.key block).each) text
bytes_code_of X919 clear text = (bytes-enciphered (take 8 clear.key) (deciphered (drop 8 clear.key) (mac_x99 (take 8 clear.key) text))).each

-- ---- segments

-- a chain of bytes
pub record HasBytes (chain : Chain) : Type 0 where
  pub block : Bytes chain.block
  pub carried : Bytes chain.carried

module _ (clear : ClearKey) (chain : Chain) (text : List ℕ) (has : HasBytes chain) (are : Bytes text) where
  hand : Bytes (at_hand chain text)
  hand = joins chain.carried text has.carried are

  whole : Bytes (whole_part (at_hand chain text))
  whole = takes _ (at_hand chain text) hand

  pub bytes_segment : (mode : Mode) → Bytes (segment_text clear mode chain text)
  bytes_segment Encipher = bytes_cbc_text (e clear.key) (bytes_e clear.key) chain.block (whole_part (at_hand chain text))
  bytes_segment Decipher = bytes_uncbc_text (une clear.key) (bytes_une clear.key) chain.block (whole_part (at_hand chain text)) has.block whole
  bytes_segment (Mac rule) = none

  code_gives : (rule : MacRule) (block : List ℕ) → Bytes (code_cipher rule clear block)
  code_gives X99 block = (bytes-enciphered clear.key block).each
  code_gives X919 block = (bytes-enciphered (take 8 clear.key) block).each

  its_blocks : (mode : Mode) → AreBlocks (cipher_blocks clear mode chain.block (blocks (whole_part (at_hand chain text))))
  its_blocks Encipher = bytes_cbc (e clear.key) (bytes_e clear.key) chain.block (blocks (whole_part (at_hand chain text)))
  its_blocks Decipher = bytes_pieces _ 8 (whole_part (at_hand chain text)) whole
  its_blocks (Mac rule) = bytes_cbc (code_cipher rule clear) (code_gives rule) chain.block (blocks (whole_part (at_hand chain text)))

  few : length (rest_part (at_hand chain text)) < 256
  few = omega (arith, length-drop (length (at_hand chain text) / 8 * 8) (at_hand chain text))

  pub bytes_chain : (mode : Mode) → Bytes (chain_bytes (chain_after clear mode chain text))
  bytes_chain mode =
      let rest : List ℕ = rest_part (at_hand chain text) in
      joins (chain_after clear mode chain text).block _ (bytes_last chain.block _ has.block (its_blocks mode))
      (All-cons IsByte (length rest) _ few (joins rest _ (drops _ (at_hand chain text) hand) (zeros _)))

  pub bytes_last_text : (mode : Mode) (pad : Pad) → AreSome (last_text clear mode chain pad text)
  bytes_last_text Encipher pad = bytes_enciphered clear chain.block pad (at_hand chain text)
  bytes_last_text Decipher pad = bytes_deciphered clear chain.block pad (at_hand chain text) has.block hand
  bytes_last_text (Mac rule) pad = tt

  pub bytes_last_code : (rule : MacRule) → Bytes (last_code clear rule chain text)
  bytes_last_code X99 = bytes_last chain.block _ has.block (bytes_cbc (code_cipher X99 clear) (code_gives X99) chain.block (blocks (fill (at_hand chain text))))
  bytes_last_code X919 = (bytes-enciphered (take 8 clear.key) _).each

-- ---- control vectors

bytes_changed : (bytes : List ℕ) (n flip : ℕ) → flip < 256 → Bytes bytes → Bytes (set bytes n (bit_xor (get_or bytes n 0) flip))
bytes_changed bytes n flip small are = All-set IsByte bytes n _ (xor_of_8 (get_or bytes n 0) flip (element bytes n are) small) are

bytes_part_half : (half : List ℕ) → Bytes half → Bytes (part_half half)
bytes_part_half half are =
    either (is_zero half) half (with_bit_changed (with_bit_changed half 44) 47) are
    (bytes_changed (with_bit_changed half 44) 5 1 (omega arith) (bytes_changed half 5 8 (omega arith) are))

pub bytes_part : (vector : List ℕ) → Bytes vector → Bytes (as_part vector)
bytes_part vector are =
    joins (part_half (left_of vector)) (part_half (right_of vector)) (bytes_part_half (left_of vector) (slices vector 0 8 are))
    (bytes_part_half (right_of vector) (slices vector 8 16 are))

small_closed : (b : ℕ) → b < 256 → closed_byte b < 256
small_closed b small = omega arith

bytes_closed_half : (half : List ℕ) → Bytes half → Bytes (closed_half half)
bytes_closed_half half are =
    either (is_zero half) half (set half 2 (closed_byte (get_or half 2 0))) are (All-set IsByte half 2 _ (small_closed (get_or half 2 0) (element half 2 are)) are)

pub bytes_closed : (vector : List ℕ) → Bytes vector → Bytes (closed_to_export vector)
bytes_closed vector are =
    either (is_exportable vector) _ vector
    (either (is_zero vector) closed_zero _ (literal closed_zero refl)
    (joins (closed_half (left_of vector)) (closed_half (right_of vector)) (bytes_closed_half (left_of vector) (slices vector 0 8 are))
    (bytes_closed_half (right_of vector) (slices vector 8 16 are))))
    are

-- a vector that is valid, where there is one
bytes_where : (o : Option (List ℕ)) → IfSome o IsValid → Bytes (unwrap_or o [])
bytes_where None valid = none
bytes_where (Some vector) valid = valid.bytes

pub bytes_vector_for : (kind : KeyType) (size : ℕ) → Bytes (vector_for kind size)
bytes_vector_for kind size = bytes_where (default_vector kind size) (default_valid kind size)

pub bytes_generated : (kind : KeyType) (key_length : Length) → Bytes (generated_vector kind key_length)
bytes_generated kind key_length = bytes_where (default_for kind key_length) (default_for_valid kind key_length)

-- ---- tokens

-- places with bytes
abbrev HavePlaces : List Place → Type 0
HavePlaces [] = ⊤
HavePlaces (p ∷ ps) = Bytes p.content × HavePlaces ps

bytes_contents : (ps : List Place) → HavePlaces ps → Bytes (contents ps)
bytes_contents [] have = none
bytes_contents (p ∷ ps) have = joins p.content (contents ps) have.0 (bytes_contents ps have.1)

bytes_kind : (kind : Kind) → Bytes (kind_byte kind ∷ [])
bytes_kind Internal = literal (0x01 ∷ []) refl
bytes_kind External = literal (0x02 ∷ []) refl

bytes_made : (token : Token) → Bytes token.pattern → Bytes token.sealed.left → Bytes token.sealed.right → Bytes token.vector → Bytes (made token)
unfolding made
bytes_made token pattern left right vector =
    bytes_contents (layout token 0xc0 (tvv_of (contents (layout token 0xc0 0)))) (
      bytes_kind token.kind,
      (
        zeros 3,
        (
          zeros 1,
          (
            zeros 1,
            (
              literal (0xc0 ∷ []) refl,
              (zeros 1, (pattern, (left, (right, (vector, (zeros 12, (high_first 4 (tvv_of (contents (layout token 0xc0 0))), tt))))))),
            ),
          ),
        ),
      ),
    )

module _ (bundle vector key : List ℕ) where
  bytes_left : Bytes (seal bundle vector key).left
  unfolding seal
  bytes_left = (bytes-sealed_half bundle (left_of vector) (slice_range key 0 8)).each

  bytes_right : Bytes (seal bundle vector key).right
  unfolding seal
  bytes_right = either _ (replicate 8 0) (sealed_half bundle (right_of vector) (slice_range key 8 16)) (zeros 8) (bytes-sealed_half bundle (right_of vector) (slice_range key 8 16)).each

module _ (clear : ClearKey) (are : Bytes clear.vector) where
  bytes_sealed : (o : Option (List ℕ)) → Bytes (sealed_token (master_key o) clear)
  bytes_sealed None = zeros 64
  bytes_sealed (Some master) =
      bytes_made _ (bytes_pattern master) (bytes_left master clear.vector clear.key) (bytes_right master clear.vector clear.key) are

  pub bytes_token : (m : Masters) (age : Age) → Bytes (token_for (keys_of m) (record { clear = clear; age = age }))
  unfolding token_for
  bytes_token m age.Current = bytes_sealed m.current
  bytes_token m age.Old = bytes_sealed m.former

  pub bytes_changed_token : (m : Masters) (target : Target) → Bytes (changed_token m target clear)
  unfolding new_token
  bytes_changed_token m Current = bytes_token m age.Current
  bytes_changed_token m New = bytes_sealed (full_bytes m.coming)

  pub bytes_external : (transport : List ℕ) → Bytes (external_token transport clear)
  unfolding external_token
  bytes_external transport = bytes_made _ (zeros 8) (bytes_left _ clear.vector clear.key) (bytes_right _ clear.vector clear.key) are

-- ---- the vectors of the keys that tokens stand for

-- the control vector of a key, where there is one, has bytes
abbrev pub HasVector : Option Denoted → Type 0
HasVector None = ⊤
HasVector (Some d) = Bytes d.clear.vector

pub vector_where : (t : Bool) (o : Option Denoted) → HasVector o → HasVector (if t then o else None)
vector_where true o has = has
vector_where false o has = tt

module _ (bytes : List ℕ) (are : Bytes bytes) where
  vector_or : (master : Option MasterKey) (age : Age) (other : Option Denoted) → HasVector other → HasVector (denoted_or master age bytes other)
  vector_or None age other has = has
  vector_or (Some master) age other has = by_test _
    where
      by_test : (t : Bool) → HasVector (if t then Some (record { clear = clear_of master.key bytes; age = age }) else other)
      by_test true = slices bytes 32 48 are
      by_test false = has

  pub vector_denoted : (masters : MasterKeys) → HasVector (denoted masters bytes)
  unfolding denoted
  vector_denoted masters =
      vector_where (is_token asked.Internal bytes) (denoted_or masters.current age.Current bytes (denoted_or masters.former age.Old bytes None))
      (vector_or masters.current age.Current (denoted_or masters.former age.Old bytes None) (vector_or masters.former age.Old None tt))

abbrev pub HasClearVector : Option ClearKey → Type 0
HasClearVector None = ⊤
HasClearVector (Some clear) = Bytes clear.vector

pub vector_under : (transport bytes : List ℕ) → Bytes bytes → HasClearVector (denoted_under transport bytes)
unfolding denoted_under
vector_under transport bytes are = by_test (is_token asked.External bytes)
  where
    by_test : (t : Bool) → HasClearVector (if t then Some (clear_of (transport_bundle transport) bytes) else None)
    by_test true = slices bytes 32 48 are
    by_test false = tt
