-- Under a clear key: the cipher is DES or triple DES by the length of the key, also in a chain.
use Rattle.std.proofs.Common.{◌==◌, if◌then◌else◌, ◌≡◌, ℕ, List, [], ◌∷◌, length, take, drop, refl, sym, ap, ◌∙◌}
use Rattle.des_blocks.specs.Bits.{xor}
use Rattle.des_blocks.specs.Modes.{blocks, cbc, e, joined, uncbc, une}
use Rattle.des_blocks.specs.Texts.{cbc_text, uncbc_text}
use Rattle.des_blocks.specs.TripleDes.{ded, deciphered, ede, enciphered}
use Rattle.des_blocks.proofs.ValueLemmas.{bytes-deciphered, bytes-enciphered, deciphered-enciphered, enciphered-deciphered}

-- ---- ciphers that are the same give the same chain

pub cbc-same : (e d : List ℕ → List ℕ) → ((x : List ℕ) → e x ≡ d x) → (chain : List ℕ) (ps : List (List ℕ)) → cbc e chain ps ≡ cbc d chain ps
unfolding cbc
cbc-same e d h chain [] = refl
cbc-same e d h chain (p ∷ ps) =
    ap {B = List (List ℕ)} (λ x. x ∷ cbc e (e (xor p chain)) ps) (h (xor p chain))
    ∙ ap {B = List (List ℕ)} (λ x. d (xor p chain) ∷ cbc e x ps) (h (xor p chain))
    ∙ ap {B = List (List ℕ)} (λ xs. d (xor p chain) ∷ xs) (cbc-same e d h (d (xor p chain)) ps)

pub uncbc-same : (e d : List ℕ → List ℕ) → ((x : List ℕ) → e x ≡ d x) → (chain : List ℕ) (ps : List (List ℕ)) → uncbc e chain ps ≡ uncbc d chain ps
unfolding uncbc
uncbc-same e d h chain [] = refl
uncbc-same e d h chain (p ∷ ps) =
    ap {B = List (List ℕ)} (λ x. xor x chain ∷ uncbc e p ps) (h p) ∙ ap {B = List (List ℕ)} (λ xs. xor (d p) chain ∷ xs) (uncbc-same e d h p ps)

-- ---- under a clear key

e-single : (key block : List ℕ) → length key ≡ 8 → ede key key key block ≡ e key block
unfolding ede e
e-single key block h =
    enciphered-deciphered key (enciphered key block) (bytes-enciphered key block)
    ∙ sym (ap (λ n. if n == 8 then enciphered key block else ede (take 8 key) (drop 8 key) (take 8 key) block) h)

e-double : (key block : List ℕ) → length key ≡ 16 → ede (take 8 key) (drop 8 key) (take 8 key) block ≡ e key block
unfolding e
e-double key block h = sym (ap (λ n. if n == 8 then enciphered key block else ede (take 8 key) (drop 8 key) (take 8 key) block) h)

une-single : (key block : List ℕ) → length key ≡ 8 → ded key key key block ≡ une key block
unfolding ded une
une-single key block h =
    deciphered-enciphered key (deciphered key block) (bytes-deciphered key block)
    ∙ sym (ap (λ n. if n == 8 then deciphered key block else ded (take 8 key) (drop 8 key) (take 8 key) block) h)

une-double : (key block : List ℕ) → length key ≡ 16 → ded (take 8 key) (drop 8 key) (take 8 key) block ≡ une key block
unfolding une
une-double key block h = sym (ap (λ n. if n == 8 then deciphered key block else ded (take 8 key) (drop 8 key) (take 8 key) block) h)

pub cbc-single : (key start text : List ℕ) → length key ≡ 8 → cbc_text (ede key key key) start text ≡ cbc_text (e key) start text
cbc-single key start text h = ap joined (cbc-same (ede key key key) (e key) (λ x. e-single key x h) start (blocks text))

pub cbc-double : (key start text : List ℕ) → length key ≡ 16 → cbc_text (ede (take 8 key) (drop 8 key) (take 8 key)) start text ≡ cbc_text (e key) start text
cbc-double key start text h = ap joined (cbc-same (ede (take 8 key) (drop 8 key) (take 8 key)) (e key) (λ x. e-double key x h) start (blocks text))

pub uncbc-single : (key start text : List ℕ) → length key ≡ 8 → uncbc_text (ded key key key) start text ≡ uncbc_text (une key) start text
uncbc-single key start text h = ap joined (uncbc-same (ded key key key) (une key) (λ x. une-single key x h) start (blocks text))

pub uncbc-double : (key start text : List ℕ) → length key ≡ 16 → uncbc_text (ded (take 8 key) (drop 8 key) (take 8 key)) start text ≡ uncbc_text (une key) start text
uncbc-double key start text h = ap joined (uncbc-same (ded (take 8 key) (drop 8 key) (take 8 key)) (une key) (λ x. une-double key x h) start (blocks text))
