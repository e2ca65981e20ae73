-- The cipher of a clear key is triple DES by its halves, and so are its chains; of a single-length key it is DES alone.
use Rattle.std.proofs.Common.{◌≡◌, ◌⊎◌, ℕ, List, length, take, drop, sym, ap, ◌∙◌, ⊎_elim, inl, inr, arith}
use Rattle.std.specs.Prelude.{if◌then◌else◌}
use Rattle.std.proofs.lemmas.Bool.{eq-eqb, ne_eqb}
use Rattle.std.proofs.lemmas.List.{take_all}
use Rattle.key_cells.specs.Bytes.{AreBytes}
use Rattle.cca_vectors.specs.Vectors.{length_of}
use Rattle.des_blocks.specs.Modes.{blocks, e, joined, une}
use Rattle.des_blocks.specs.Texts.{cbc_text, uncbc_text}
use Rattle.des_blocks.specs.TripleDes.{ded, deciphered, ede, enciphered}
use Rattle.des_blocks.proofs.ClearKeyLemmas.{cbc-double, cbc-same, cbc-single, uncbc-double, uncbc-same, uncbc-single}
use Rattle.des_blocks.proofs.ValueLemmas.{ede-same}
use Rattle.multi_encipher.specs.Seals.{IsKey}
use Rattle.multi_encipher.proofs.SealLaws.{length_of-cases}
use Rattle.verb_rules.specs.Scheduled.{left_key, right_key}
use Rattle.verb_rules.proofs.KeyLemmas.{single_right, double_right}

-- a clear key has 8 or 16 bytes
abbrev pub HasKeyLength : List ℕ → Type 0
HasKeyLength key = (length key ≡ 8) ⊎ (length key ≡ 16)

pub key_length : (vector key : List ℕ) → IsKey vector key → HasKeyLength key
key_length vector key is = ⊎_elim (λ (single : length_of vector ≡ 8). inl (is.size ∙ single)) (λ (double : length_of vector ≡ 16). inr (is.size ∙ double)) (length_of-cases vector)

abbrev pub ede_of : List ℕ → List ℕ → List ℕ
ede_of key = ede (left_key key) (right_key key) (left_key key)

abbrev pub ded_of : List ℕ → List ℕ → List ℕ
ded_of key = ded (left_key key) (right_key key) (left_key key)

-- three single-length keys, or the halves of a double-length one
by_halves : {A : Type 0} (use_of : List ℕ → List ℕ → List ℕ → A) (key : List ℕ) (result : A) → HasKeyLength key
    → (length key ≡ 8 → use_of key key key ≡ result) → (length key ≡ 16 → use_of (take 8 key) (drop 8 key) (take 8 key) ≡ result)
    → use_of (left_key key) (right_key key) (left_key key) ≡ result
by_halves use_of key result size one two =
    ⊎_elim (λ (single : length key ≡ 8).
    let whole : take 8 key ≡ key = take_all 8 key (omega (arith, single)) in
    ap (λ l. use_of l (right_key key) l) whole ∙ (ap (λ r. use_of key r key) (sym (single_right key single) ∙ whole) ∙ one single))
    (λ (double : length key ≡ 16). ap (λ r. use_of (take 8 key) r (take 8 key)) (sym (double_right key double)) ∙ two double)
    size

-- a block enciphered by triple DES under the halves of a key is enciphered under the key
pub ede-key : (key block : List ℕ) → HasKeyLength key → AreBytes 8 block → ede_of key block ≡ e key block
unfolding e
ede-key key block size bytes =
    by_halves (λ a b c. ede a b c block) key (e key block) size
    (λ single. ede-same key block bytes ∙ sym (ap (λ t. if t then enciphered key block else ede (take 8 key) (drop 8 key) (take 8 key) block) (eq-eqb (length key) 8 single)))
    (λ double. sym (ap (λ t. if t then enciphered key block else ede (take 8 key) (drop 8 key) (take 8 key) block)
    (ne_eqb (length key) 8 (λ single. omega (arith, double, single)))))

-- a text, likewise
pub enciphered_chain : (key start text : List ℕ) → HasKeyLength key → cbc_text (ede_of key) start text ≡ cbc_text (e key) start text
enciphered_chain key start text size =
    by_halves (λ a b c. cbc_text (ede a b c) start text) key (cbc_text (e key) start text) size (cbc-single key start text) (cbc-double key start text)

pub deciphered_chain : (key start text : List ℕ) → HasKeyLength key → uncbc_text (ded_of key) start text ≡ uncbc_text (une key) start text
deciphered_chain key start text size =
    by_halves (λ a b c. uncbc_text (ded a b c) start text) key (uncbc_text (une key) start text) size (uncbc-single key start text) (uncbc-double key start text)

-- ---- a single-length key alone

pub e-alone : (key block : List ℕ) → length key ≡ 8 → enciphered key block ≡ e key block
unfolding e
e-alone key block single = sym (ap (λ t. if t then enciphered key block else ede (take 8 key) (drop 8 key) (take 8 key) block) (eq-eqb (length key) 8 single))

une-alone : (key block : List ℕ) → length key ≡ 8 → deciphered key block ≡ une key block
unfolding une
une-alone key block single = sym (ap (λ t. if t then deciphered key block else ded (take 8 key) (drop 8 key) (take 8 key) block) (eq-eqb (length key) 8 single))

pub enciphered_single : (key start text : List ℕ) → length key ≡ 8 → cbc_text (enciphered key) start text ≡ cbc_text (e key) start text
enciphered_single key start text single = ap joined (cbc-same (enciphered key) (e key) (λ x. e-alone key x single) start (blocks text))

pub deciphered_single : (key start text : List ℕ) → length key ≡ 8 → uncbc_text (deciphered key) start text ≡ uncbc_text (une key) start text
deciphered_single key start text single = ap joined (uncbc-same (deciphered key) (une key) (λ x. une-alone key x single) start (blocks text))
