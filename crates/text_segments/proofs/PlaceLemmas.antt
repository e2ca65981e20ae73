-- What the lengths of segments say, and the place of the text.
use Rattle.std.proofs.Common.{◌≡◌, ◌∙◌, ◌==◌, ℕ, ◌+◌, ◌-◌, ◌*◌, ◌/◌, ◌%◌, ◌≤◌, Bool, true, false, ◌&&◌, nat_le, List, [], ◌∷◌, ◌++◌, length, take, drop, replicate, refl, sym, ap, arith, None, Some}
use Rattle.std.specs.Int.{div_ceil}
use Rattle.std.proofs.lemmas.Bool.{eq-eqb, eqb-true, le-leb, leb-true}
use Rattle.std.proofs.lemmas.List.{append-nil, drop-drop, drop_all, drop_at, length-append, length-drop, length-replicate, length-take-le, nil_from_length, take_all, take_at, take-take}
use borrow.Rule.Slice.PartMut.{post_of}
use Rattle.std.specs.List.{copy_within}
use Rattle.des_blocks.specs.Bits.{xor}
use Rattle.des_blocks.specs.Modes.{fill}
use Rattle.cca_vectors.specs.Checks.{first_failing}
use Rattle.cca_vectors.proofs.Judging.{passes, passes_first}
use Rattle.key_cells.specs.Bench.{Text, text_of}
use Rattle.key_tokens.specs.Denotes.{ClearKey}
use Rattle.cipher_verbs.specs.CipherTexts.{cleared, enciphered_text, enciphering}
use Rattle.cipher_verbs.specs.declared.padding.Pad.{Pad}
use Rattle.cipher_verbs.specs.declared.padding.Pad.TheVariants as padding
use Rattle.text_segments.specs.Segments.{IsCipher, last_text, last_use, rest_part, spent, whole_part}
use Rattle.text_segments.specs.declared.chains.Chain.{Chain}
use Rattle.text_segments.specs.declared.modes.Mode.{Mode}
use Rattle.text_segments.specs.declared.modes.Mode.TheVariants as mode
use Rattle.verb_rules.specs.LengthChecks.{are_blocks, has_length, is_segment, is_whole, text_checks}
use Rattle.verb_rules.specs.declared.lengths.TextUse.{TextUse}
use Rattle.verb_rules.specs.declared.lengths.TextUse.TheVariants.{Decipher, LastDecipher, LastMac, LastPadded}
use Rattle.key_cells.proofs.ByteLemmas.{length-xor}

first_holds : (p q : Bool) → (p && q) ≡ true → p ≡ true
first_holds true q is = refl
first_holds false q is = cc

second_holds : (p q : Bool) → (p && q) ≡ true → q ≡ true
second_holds true q is = is
second_holds false q is = cc

-- a text that breaks no rule has a length of its use
pub has_its_length : (use_of : TextUse) (size : ℕ) → first_failing (text_checks use_of size) ≡ None → has_length use_of size ≡ true
has_its_length use_of size passes = passes_first 23 (has_length use_of size) [] passes

-- the lengths of two pieces that are whole blocks together
pub record Blocks (size carried : ℕ) : Type 0 where
  pub short : size ≤ 4088
  pub whole : (carried + size) % 8 ≡ 0
  pub some : 8 ≤ carried + size

blocks_of : (size carried : ℕ) → (is_segment size && are_blocks (size + carried)) ≡ true → Blocks size carried
blocks_of size carried is =
    let both = second_holds (is_segment size) (are_blocks (size + carried)) is in
    let whole : (size + carried) % 8 ≡ 0 = eqb-true ((size + carried) % 8) 0 (first_holds ((size + carried) % 8 == 0) (nat_le 8 (size + carried)) both) in
    let some : 8 ≤ size + carried = leb-true 8 (size + carried) (second_holds ((size + carried) % 8 == 0) (nat_le 8 (size + carried)) both) in
    record {
      short = leb-true size 4088 (first_holds (is_segment size) (are_blocks (size + carried)) is);
      whole = omega arith;
      some = omega arith;
    }

pub decipher_lengths : (carried size : ℕ) → first_failing (text_checks (LastDecipher carried) size) ≡ None → Blocks size carried
decipher_lengths carried size passes = blocks_of size carried (has_its_length (LastDecipher carried) size passes)

pub decipher_length : (carried size : ℕ) → first_failing (text_checks (LastDecipher carried) size) ≡ None → 8 ≤ carried + size
decipher_length carried size passes = (decipher_lengths carried size passes).some

pub mac_lengths : (carried size : ℕ) → first_failing (text_checks (LastMac carried) size) ≡ None → (size ≤ 4088) × (1 ≤ carried + size)
mac_lengths carried size passes =
    let both = has_its_length (LastMac carried) size passes in
    let some : 1 ≤ size + carried = leb-true 1 (size + carried) (second_holds (is_segment size) (nat_le 1 (size + carried)) both) in
    (leb-true size 4088 (first_holds (is_segment size) (nat_le 1 (size + carried)) both), omega arith)

-- the place of a text of this length, cleared
pub cleared_is : (old new : Text) (size : ℕ) → new.size ≡ size → drop size new.bytes ≡ drop size old.bytes → cleared new ≡ spent size old
cleared_is old new size is past =
    let made : ℕ → List ℕ → Text = λ n rest. record { bytes = replicate n 0 ++ rest; size = 0 } in
    ap (λ n. made n (drop n new.bytes)) is ∙ ap (made size) past

-- lists that are the same from a place on are so from a later one on
pub past_further : (m n : ℕ) (xs ys : List ℕ) → m ≤ n → drop m xs ≡ drop m ys → drop n xs ≡ drop n ys
past_further m n xs ys further same =
    let at : m + (n - m) ≡ n = omega (arith, further) in
    ap (λ k. drop k xs) (sym at) ∙ sym (drop-drop (n - m) m xs) ∙ ap (drop (n - m)) same ∙ drop-drop (n - m) m ys ∙ ap (λ k. drop k ys) at

-- what is left after the whole blocks
pub rest_is : (one two hand : List ℕ) → one ≡ hand → two ≡ hand
    → take (length two - length one / 8 * 8) (drop (length one / 8 * 8) two) ≡ rest_part hand
rest_is one two hand first second =
    let at = length hand / 8 * 8 in
    ap (λ xs. take (length two - length xs / 8 * 8) (drop (length xs / 8 * 8) two)) first
    ∙ ap (λ xs. take (length xs - at) (drop at xs)) second
    ∙ take_all (length hand - at) (drop at hand) (omega (arith, length-drop at hand))

-- ---- the last segment has a length of the whole text's use

whole_passes : (full : ℕ) → full % 8 ≡ 0 → 8 ≤ full → full ≤ 4096 → is_whole full ≡ true
whole_passes full whole some room =
    ap (λ p. (p && nat_le 8 full) && nat_le full 4096) (eq-eqb (full % 8) 0 whole)
    ∙ ap (λ p. p && nat_le full 4096) (le-leb 8 full some)
    ∙ le-leb full 4096 room

pub decipher_passes : (carried size full : ℕ) → full ≡ carried + size → carried ≤ 7 → first_failing (text_checks (LastDecipher carried) size) ≡ None
    → first_failing (text_checks Decipher full) ≡ None
decipher_passes carried size full is few held =
    let lengths = decipher_lengths carried size held in
    passes 23 (is_whole full) [] (whole_passes full (ap (λ n. n % 8) is ∙ lengths.whole) (omega (arith, is, lengths.some))
    (omega (arith, is, few, lengths.short))) refl

pub encipher_passes : (padding : Pad) (carried size full : ℕ) → full ≡ carried + size → carried ≤ 7
    → first_failing (text_checks (last_use mode.Encipher padding carried) size) ≡ None
    → first_failing (text_checks (enciphering padding) full) ≡ None
encipher_passes padding.None carried size full is few held = decipher_passes carried size full is few held
encipher_passes padding.X923 carried size full is few held =
    let short : size ≤ 4088 = leb-true size 4088 (has_its_length LastPadded size held) in
    passes 23 (nat_le full 4095) [] (le-leb full 4095 (omega (arith, is, few, short))) refl

pub is_encipher : (given : Mode) → IsCipher given → (given ≡ mode.Decipher → ⊥) → given ≡ mode.Encipher
is_encipher mode.Encipher is other = refl
is_encipher mode.Decipher is other = absurd (other refl)
is_encipher (mode.Mac rule) is other = absurd is

pub last_enciphered : (given : Mode) → IsCipher given → (given ≡ mode.Decipher → ⊥)
    → (clear : ClearKey) (chain : Chain) (padding : Pad) (text : List ℕ)
    → last_text clear given chain padding text ≡ Some (enciphered_text clear chain.block padding (chain.carried ++ text))
last_enciphered given is other clear chain padding text = ap (λ m. last_text clear m chain padding text) (is_encipher given is other)

-- ---- what is written in the place of the text

-- the bytes of a text move up by those that are put before it
pub moved_up : (text bytes moved first : List ℕ) → length bytes ≤ length text → moved ≡ copy_within text 0 (length text - length bytes) (length bytes)
    → first ≡ bytes
    → first ++ drop (length bytes) moved ≡ bytes ++ take (length text - length bytes) text
moved_up text bytes moved first few is same =
    let n = length bytes in
    let kept = length text - n in
    let all : kept - 0 ≡ kept = omega arith in
    let end : drop (n + kept) text ≡ [] = drop_all (n + kept) text (omega (arith, few)) in
    ap (λ xs. xs ++ drop n moved) same
    ∙ ap (λ xs. bytes ++ drop n xs)
    (is ∙ ap (λ k. (take n text ++ take k text) ++ drop (n + k) text) all ∙ ap (λ xs. (take n text ++ take kept text) ++ xs) end ∙ append-nil
    (take n text ++ take kept text))
    ∙ ap (λ xs. bytes ++ xs) (drop_at (take n text) (take kept text) n (length-take-le n text few))

pub none_before : (text bytes : List ℕ) → length bytes ≡ 0 → text ≡ bytes ++ take (length text - length bytes) text
none_before text [] none = sym (take_all (length text - 0) text (omega arith))
none_before text (b ∷ bytes) none = absurd (omega arith)

-- a place whose text was made longer, and its end made zeros
pub record Filled (place longer : Text) (new : List ℕ) : Type 0 where
  pub text : take longer.size (new ++ drop longer.size longer.bytes) ≡ fill (text_of place)
  pub size : longer.size ≡ (place.size + 7) / 8 * 8
  pub past : drop longer.size (new ++ drop longer.size longer.bytes) ≡ drop longer.size place.bytes

pub filled : (place longer : Text) (text lent zeros : List ℕ) (count : ℕ) → text ≡ text_of place → length text ≡ place.size
    → count ≡ div_ceil (length text) 8
    → longer ≡ record place { size = count * 8 } → lent ≡ text_of longer → length lent ≡ longer.size
    → zeros ≡ replicate (length (take (length lent - length text) (drop (length text) lent))) 0
    → Filled place longer (take (length text) lent ++ (zeros ++ post_of (length text) (length lent - length text) lent))
filled place longer text lent zeros count read text_long up is given lent_long zero =
    let n = length text in
    let full = longer.size in
    let size_is : full ≡ count * 8 = ap (λ t. t.size) is in
    let more : n ≤ full = omega (arith, up, size_is) in
    let after = drop n lent in
    let after_long : length after ≡ full - n = omega (arith, length-drop n lent, lent_long) in
    let rest = post_of n (length lent - n) lent in
    let none : rest ≡ [] = nil_from_length rest (omega (arith, length-drop (length lent - n) after, after_long, lent_long)) in
    let front : take n lent ≡ text
    = ap (take n) (given ∙ ap (λ t. take full t.bytes) is) ∙ take-take n full place.bytes more ∙ ap (λ k. take k place.bytes) text_long ∙ sym read in
    let added : length (take (length lent - n) after) ≡ (8 - n % 8) % 8
    = omega (arith, ap (λ xs. length xs) (take_all (length lent - n) after (omega (arith, after_long, lent_long))), after_long, up, size_is) in
    let new = take n lent ++ (zeros ++ rest) in
    let made : new ≡ fill text
    = ap (λ xs. xs ++ (zeros ++ rest)) front
    ∙ ap (λ xs. text ++ (zeros ++ xs)) none
    ∙ ap (λ xs. text ++ xs) (append-nil zeros ∙ zero ∙ ap (λ k. replicate k 0) added) in
    let long : length new ≡ full
    = ap (λ xs. length xs) made
    ∙ omega (arith, length-append text (replicate ((8 - n % 8) % 8) 0), length-replicate {A = ℕ} ((8 - n % 8) % 8) 0, up, size_is) in
    record {
      text = take_at new (drop full longer.bytes) full long ∙ made ∙ ap fill read;
      size = omega (arith, size_is, up, text_long);
      past = drop_at new (drop full longer.bytes) full long ∙ ap (λ t. drop full t.bytes) is;
    }

-- a text of the length of its place was written there
pub record Written (place : Text) (new given : List ℕ) : Type 0 where
  pub text : take place.size (new ++ drop place.size place.bytes) ≡ given
  pub past : drop place.size (new ++ drop place.size place.bytes) ≡ drop place.size place.bytes

-- the first block of the text, combined with another one
pub combined_place : (place : Text) (lent start new : List ℕ) → lent ≡ text_of place → length lent ≡ place.size → 8 ≤ place.size → length start ≡ 8
    → new ≡ xor (take 8 lent) start ++ drop 8 lent → Written place new (xor (take 8 (text_of place)) start ++ drop 8 (text_of place))
combined_place place lent start new given lent_long some eight put =
    let first_long : length (take 8 lent) ≡ 8 = length-take-le 8 lent (omega (arith, lent_long, some)) in
    let x_long : length (xor (take 8 lent) start) ≡ 8 = length-xor (take 8 lent) start (first_long ∙ sym eight) ∙ first_long in
    let long : length new ≡ place.size
    = ap (λ xs. length xs) put ∙ omega (arith, length-append (xor (take 8 lent) start) (drop 8 lent), x_long, length-drop 8 lent, lent_long, some) in
    record {
      text = take_at new (drop place.size place.bytes) place.size long ∙ put ∙ ap (λ xs. xor (take 8 xs) start ++ drop 8 xs) given;
      past = drop_at new (drop place.size place.bytes) place.size long;
    }

-- a place whose text was made longer by the carried bytes, which stand before it
pub record Before (place longer : Text) (carried new : List ℕ) : Type 0 where
  pub text : take longer.size (new ++ drop longer.size longer.bytes) ≡ carried ++ text_of place
  pub size : longer.size ≡ length carried + place.size
  pub past : drop longer.size (new ++ drop longer.size longer.bytes) ≡ drop longer.size place.bytes

pub before : (place longer : Text) (carried bytes text lent new : List ℕ) → bytes ≡ carried → text ≡ text_of place → length text ≡ place.size
    → longer ≡ record place { size = length bytes + length text } → lent ≡ text_of longer → length lent ≡ longer.size
    → new ≡ bytes ++ take (length lent - length bytes) lent → Before place longer carried new
before place longer carried bytes text lent new same read text_long is given lent_long put =
    let full = longer.size in
    let size_is : full ≡ length bytes + length text = ap (λ t. t.size) is in
    let more : place.size ≤ full = omega (arith, size_is, text_long) in
    let count : length lent - length bytes ≡ place.size = omega (arith, lent_long, size_is, text_long) in
    let kept : take (length lent - length bytes) lent ≡ text
    = ap (λ k. take k lent) count ∙ ap (take place.size) (given ∙ ap (λ t. take full t.bytes) is) ∙ take-take place.size full place.bytes more
    ∙ sym read in
    let made : new ≡ bytes ++ text = put ∙ ap (λ xs. bytes ++ xs) kept in
    let long : length new ≡ full = ap (λ xs. length xs) made ∙ length-append bytes text ∙ sym size_is in
    record {
      text = take_at new (drop full longer.bytes) full long ∙ made ∙ ap (λ xs. xs ++ text) same ∙ ap (λ xs. carried ++ xs) read;
      size = omega (arith, size_is, ap (λ (xs : List ℕ). length xs) same, text_long);
      past = drop_at new (drop full longer.bytes) full long ∙ ap (λ t. drop full t.bytes) is;
    }

-- a place whose text was cut to its whole blocks
pub whole_place : (place kept : Text) (read : List ℕ) → read ≡ text_of place → length read ≡ place.size
    → kept ≡ record place { size = length read / 8 * 8 }
    → text_of kept ≡ whole_part (text_of place)
whole_place place kept read given long is =
    ap text_of is
    ∙ sym (take-take (length read / 8 * 8) place.size place.bytes (omega (arith, long)))
    ∙ ap (λ xs. take (length xs / 8 * 8) (text_of place)) given
