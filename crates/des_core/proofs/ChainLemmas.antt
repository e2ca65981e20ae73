-- Chaining in place: the blocks that are done and the chain over those that are left.
use Rattle.std.proofs.Common.{◌≡◌, ℕ, zero, suc, ◌+◌, ◌-◌, ◌*◌, ◌/◌, ◌<◌, ◌≤◌, List, [], ◌∷◌, ◌++◌, length, take, drop, get_or, bit_xor, refl, sym, ap, ◌∙◌, arith}
use Rattle.std.specs.Int.{w64, byte_at, bytes_high_first, to_be_bytes, from_be_bytes}
use Rattle.std.proofs.lemmas.List.{append_assoc, append-nil, drop-append-le, drop_at, drop-drop, length-append, length-drop, length-map, length-take, nil_from_length, take-append-le, take_at, take-append-drop}
use Rattle.std.proofs.lemmas.Nat.{be_bytes_8}
use Rattle.key_cells.specs.Bench.{Text, text_of, with_text, with_text_of}
use Rattle.key_cells.specs.Lease.{bench_of, holding}
use Rattle.key_cells.specs.declared.leases.Lease.{Lease}
use Rattle.key_cells.specs.declared.schedules.Schedule.{Schedule}
use Rattle.des_blocks.specs.Bits.{bits, byte_bits, number, pieces, to_bytes, xor}
use Rattle.des_blocks.specs.Modes.{blocks, cbc, joined, uncbc}
use Rattle.des_blocks.specs.Schedules.{AreOf, ded_bytes, ded_under, ede_bytes}
use Rattle.des_blocks.specs.Texts.{put_at}
use Rattle.des_blocks.specs.TripleDes.{ded, ede}
use Rattle.des_blocks.proofs.BitLemmas.{drop-add, length-pieces}
use Rattle.des_blocks.proofs.ByteLemmas.{byte_bits-to_be_bytes, small-to_be_bytes, to_bytes-byte_bits}
use Rattle.des_blocks.proofs.CallLemmas.{ded-same_bytes, ede-same_bytes}
use Rattle.des_blocks.proofs.ClearKeyLemmas.{cbc-same, uncbc-same}
use Rattle.des_blocks.proofs.LawLemmas.{length-crypt}
use Rattle.des_blocks.proofs.XorLemmas.{byte-xor}
use Rattle.key_cells.proofs.ByteLemmas.{length-xor}
use Rattle.des_core.specs.Ciphers.{undone, undone_bytes}
use Rattle.des_core.specs.declared.ciphers.Cipher.{Cipher}
use Rattle.des_core.specs.declared.ciphers.Cipher.TheVariants as cipher

-- ---- words and their bytes

bytes-xor_first : (k a b : ℕ) → bytes_high_first k (bit_xor a b) ≡ xor (bytes_high_first k a) (bytes_high_first k b)
unfolding xor
bytes-xor_first zero a b = refl
bytes-xor_first (suc k) a b =
    ap {B = List ℕ} (λ n. n ∷ bytes_high_first k (bit_xor a b)) (byte-xor k a b)
    ∙ ap {B = List ℕ} (λ ns. bit_xor (byte_at k a) (byte_at k b) ∷ ns) (bytes-xor_first k a b)

pub bytes-xor : (a b : ℕ) → to_be_bytes w64 (bit_xor a b) ≡ xor (to_be_bytes w64 a) (to_be_bytes w64 b)
bytes-xor a b = bytes-xor_first 8 a b

pub bytes-of : (n : ℕ) → to_be_bytes w64 n ≡ to_bytes (bits 64 n)
bytes-of n = sym (to_bytes-byte_bits (to_be_bytes w64 n) (small-to_be_bytes n)) ∙ ap to_bytes (byte_bits-to_be_bytes n)

-- a block combined with the chain and put through a cipher on bits
pub cipher-word : (cipher : List ℕ → List ℕ) (block : List ℕ) (word chain out : ℕ) → to_be_bytes w64 word ≡ block → bits 64 out ≡ cipher (bits 64 (bit_xor word chain))
    → to_be_bytes w64 out ≡ to_bytes (cipher (byte_bits (xor block (to_be_bytes w64 chain))))
cipher-word cipher block word chain out p is =
    bytes-of out ∙ ap to_bytes (is ∙ ap cipher (sym (byte_bits-to_be_bytes (bit_xor word chain)) ∙ ap byte_bits (bytes-xor word chain ∙ ap (λ xs. xor xs (to_be_bytes w64 chain)) p)))

-- a block deciphered, by d on bits, and combined with the chain
pub deciphered-word : (d : List ℕ → List ℕ) (block : List ℕ) (word chain out : ℕ) → to_be_bytes w64 word ≡ block → bits 64 out ≡ d (bits 64 word)
    → to_be_bytes w64 (bit_xor out chain) ≡ xor (to_bytes (d (byte_bits block))) (to_be_bytes w64 chain)
deciphered-word d block word chain out p is =
    bytes-xor out chain ∙ ap (λ xs. xor xs (to_be_bytes w64 chain)) (bytes-of out ∙ ap to_bytes (is ∙ ap d (sym (byte_bits-to_be_bytes word) ∙ ap byte_bits p)))

-- ---- pieces of a text

pub pieces-append : (i k : ℕ) (xs ys : List ℕ) → length xs ≡ 8 * i → pieces (i + k) 8 (xs ++ ys) ≡ pieces i 8 xs ++ pieces k 8 ys
unfolding pieces
pieces-append zero k xs ys e =
    let none : xs ≡ [] = nil_from_length xs (omega arith) in
    let same : 0 + k ≡ k = omega arith in
    ap (λ n. pieces n 8 (xs ++ ys)) same ∙ ap (λ zs. pieces k 8 (zs ++ ys)) none
pieces-append (suc i) k xs ys e =
    let more : suc i + k ≡ suc (i + k) = omega arith in
    let rest : length (drop 8 xs) ≡ 8 * i = omega (arith, length-drop 8 xs) in
    ap (λ n. pieces n 8 (xs ++ ys)) more
    ∙ ap {B = List (List ℕ)} (λ zs. zs ∷ pieces (i + k) 8 (drop 8 (xs ++ ys))) (take-append-le 8 xs ys (omega arith))
    ∙ ap {B = List (List ℕ)} (λ zs. take 8 xs ∷ pieces (i + k) 8 zs) (drop-append-le 8 xs ys (omega arith))
    ∙ ap {B = List (List ℕ)} (λ zs. take 8 xs ∷ zs) (pieces-append i k (drop 8 xs) ys rest)

pieces-one : (xs : List ℕ) → pieces 1 8 xs ≡ take 8 xs ∷ []
unfolding pieces
pieces-one xs = refl

pub pieces-none : (n : ℕ) (xs : List ℕ) → pieces 0 n xs ≡ []
unfolding pieces
pieces-none n xs = refl

pub pieces-take : (i : ℕ) (text : List ℕ) → 8 * i ≤ length text → pieces i 8 (take (8 * i) text) ≡ pieces i 8 text
pieces-take i text h =
    let size : length (take (8 * i) text) ≡ 8 * i = length-take (8 * i) text ∙ omega arith in
    let same : i + 0 ≡ i = omega arith in
    sym (sym (ap (λ n. pieces n 8 text) same) ∙ ap (pieces (i + 0) 8) (sym (take-append-drop (8 * i) text))
    ∙ pieces-append i 0 (take (8 * i) text) (drop (8 * i) text) size
    ∙ ap (λ xs. pieces i 8 (take (8 * i) text) ++ xs) (pieces-none 8 (drop (8 * i) text)) ∙ append-nil (pieces i 8 (take (8 * i) text)))

pub length-put : (text bytes : List ℕ) (at : ℕ) → at + 8 ≤ length text → length bytes ≡ 8 → length (put_at text at bytes) ≡ length text
length-put text bytes at h e =
    length-append (take at text) (bytes ++ drop (at + 8) text) ∙ omega (arith, length-append bytes (drop (at + 8) text), length-take at text, length-drop (at + 8) text)

pieces-put : (i : ℕ) (text bytes : List ℕ) → 8 * i + 8 ≤ length text → length bytes ≡ 8 → pieces (i + 1) 8 (put_at text (8 * i) bytes) ≡ pieces i 8 text ++ bytes ∷ []
pieces-put i text bytes h e =
    let size : length (take (8 * i) text) ≡ 8 * i = length-take (8 * i) text ∙ omega arith in
    pieces-append i 1 (take (8 * i) text) (bytes ++ drop (8 * i + 8) text) size
    ∙ ap (λ xs. xs ++ pieces 1 8 (bytes ++ drop (8 * i + 8) text)) (pieces-take i text (omega arith))
    ∙ ap (λ xs. pieces i 8 text ++ xs) (pieces-one (bytes ++ drop (8 * i + 8) text) ∙ ap {B = List (List ℕ)} (λ xs. xs ∷ []) (take_at bytes (drop (8 * i + 8) text) 8 e))

drop-put : (text bytes : List ℕ) (at : ℕ) → at + 8 ≤ length text → length bytes ≡ 8 → drop (at + 8) (put_at text at bytes) ≡ drop (at + 8) text
drop-put text bytes at h e =
    let size : length (take at text) ≡ at = length-take at text ∙ omega arith in
    drop-add (take at text) (bytes ++ drop (at + 8) text) at 8 size ∙ drop_at bytes (drop (at + 8) text) 8 e

-- the block after one that was put
pub next-block : (text bytes : List ℕ) (at : ℕ) → at + 8 ≤ length text → length bytes ≡ 8 → take 8 (drop (at + 8) (put_at text at bytes)) ≡ take 8 (drop (at + 8) text)
next-block text bytes at h e = ap (take 8) (drop-put text bytes at h e)

-- one block more: `this` runs over the blocks that are left, and `next` over those after this one
pub text-more : (n i : ℕ) (text bytes : List ℕ) (this next : List (List ℕ) → List (List ℕ)) (out : List (List ℕ)) → i < n → length text ≡ 8 * n → length bytes ≡ 8
    → ((ps : List (List ℕ)) → this (take 8 (drop (8 * i) text) ∷ ps) ≡ bytes ∷ next ps)
    → pieces i 8 text ++ this (pieces (n - i) 8 (drop (8 * i) text)) ≡ out
    → pieces (i + 1) 8 (put_at text (8 * i) bytes) ++ next (pieces (n - (i + 1)) 8 (drop (8 * (i + 1)) (put_at text (8 * i) bytes))) ≡ out
unfolding pieces
text-more n i text bytes this next out h long eight step before =
    let one : n - i ≡ suc (n - (i + 1)) = omega arith in
    let wider : 8 * (i + 1) ≡ 8 * i + 8 = omega arith in
    let rest : drop (8 * (i + 1)) (put_at text (8 * i) bytes) ≡ drop 8 (drop (8 * i) text)
    = ap (λ k. drop k (put_at text (8 * i) bytes)) wider ∙ drop-put text bytes (8 * i) (omega arith) eight ∙ sym (drop-drop 8 (8 * i) text) in
    ap (λ xs. xs ++ next (pieces (n - (i + 1)) 8 (drop (8 * (i + 1)) (put_at text (8 * i) bytes)))) (pieces-put i text bytes (omega arith) eight)
    ∙ ap (λ xs. (pieces i 8 text ++ bytes ∷ []) ++ next (pieces (n - (i + 1)) 8 xs)) rest
    ∙ append_assoc (pieces i 8 text) (bytes ∷ []) (next (pieces (n - (i + 1)) 8 (drop 8 (drop (8 * i) text))))
    ∙ ap (λ xs. pieces i 8 text ++ xs) (sym (ap (λ k. this (pieces k 8 (drop (8 * i) text))) one ∙ step (pieces (n - (i + 1)) 8 (drop 8 (drop (8 * i) text)))))
    ∙ before

pub cbc-step : (e : List ℕ → List ℕ) (chain p : List ℕ) (ps : List (List ℕ)) → cbc e chain (p ∷ ps) ≡ e (xor p chain) ∷ cbc e (e (xor p chain)) ps
unfolding cbc
cbc-step e chain p ps = refl

pub uncbc-step : (d : List ℕ → List ℕ) (chain p : List ℕ) (ps : List (List ℕ)) → uncbc d chain (p ∷ ps) ≡ xor (d p) chain ∷ uncbc d p ps
unfolding uncbc
uncbc-step d chain p ps = refl

cbc-none : (e : List ℕ → List ℕ) (chain : List ℕ) → cbc e chain [] ≡ []
unfolding cbc
cbc-none e chain = refl

uncbc-none : (d : List ℕ → List ℕ) (chain : List ℕ) → uncbc d chain [] ≡ []
unfolding uncbc
uncbc-none d chain = refl

pub joined-pieces : (n : ℕ) (text : List ℕ) → length text ≡ 8 * n → joined (pieces n 8 text) ≡ text
unfolding pieces
joined-pieces zero text e = sym (nil_from_length text (omega arith))
joined-pieces (suc n) text e = ap (λ xs. take 8 text ++ xs) (joined-pieces n (drop 8 text) (omega (arith, length-drop 8 text))) ∙ take-append-drop 8 text

-- when no block is left
pub text-done : (n i : ℕ) (text : List ℕ) (this : List (List ℕ) → List (List ℕ)) (out : List (List ℕ)) → i ≡ n → length text ≡ 8 * n → this [] ≡ []
    → pieces i 8 text ++ this (pieces (n - i) 8 (drop (8 * i) text)) ≡ out → text ≡ joined out
text-done n i text this out e long none before =
    let left : n - i ≡ 0 = omega arith in
    let whole : pieces i 8 text ≡ out
    = sym (append-nil (pieces i 8 text)) ∙ sym (ap (λ xs. pieces i 8 text ++ xs) (ap (λ k. this (pieces k 8 (drop (8 * i) text))) left ∙ ap this (pieces-none 8 (drop (8 * i) text)) ∙ none)) ∙ before in
    sym (joined-pieces n text long) ∙ sym (ap (λ k. joined (pieces k 8 text)) e) ∙ ap joined whole

pub cbc-done : (e : List ℕ → List ℕ) (chain : List ℕ) (n i : ℕ) (text : List ℕ) (out : List (List ℕ)) → i ≡ n → length text ≡ 8 * n
    → pieces i 8 text ++ cbc e chain (pieces (n - i) 8 (drop (8 * i) text)) ≡ out → text ≡ joined out
cbc-done e chain n i text out h long before = text-done n i text (cbc e chain) out h long (cbc-none e chain) before

pub uncbc-done : (d : List ℕ → List ℕ) (chain : List ℕ) (n i : ℕ) (text : List ℕ) (out : List (List ℕ)) → i ≡ n → length text ≡ 8 * n
    → pieces i 8 text ++ uncbc d chain (pieces (n - i) 8 (drop (8 * i) text)) ≡ out → text ≡ joined out
uncbc-done d chain n i text out h long before = text-done n i text (uncbc d chain) out h long (uncbc-none d chain) before

-- at the start
pub text-begun : (n : ℕ) (text : List ℕ) (this : List (List ℕ) → List (List ℕ)) → length text / 8 ≡ n → pieces 0 8 text ++ this (pieces (n - 0) 8 (drop (8 * 0) text)) ≡ this (blocks text)
unfolding pieces
text-begun n text this e = let same : n - 0 ≡ length text / 8 = omega arith in ap (λ k. this (pieces k 8 text)) same

-- ---- under three keys

pub cbc-keys : (keys : List Schedule) (a b c start text : List ℕ) (ps : List (List ℕ)) → AreOf keys a b c → text ≡ joined (cbc (ede_bytes keys) start ps) → text ≡ joined (cbc (ede a b c) start ps)
cbc-keys keys a b c start text ps of is = is ∙ ap joined (cbc-same (ede_bytes keys) (ede a b c) (λ x. ede-same_bytes keys a b c x of) start ps)

pub uncbc-keys : (keys : List Schedule) (a b c start text : List ℕ) (ps : List (List ℕ)) → AreOf keys a b c → text ≡ joined (uncbc (ded_bytes keys) start ps) → text ≡ joined (uncbc (ded a b c) start ps)
uncbc-keys keys a b c start text ps of is = is ∙ ap joined (uncbc-same (ded_bytes keys) (ded a b c) (λ x. ded-same_bytes keys a b c x of) start ps)

-- ---- the lease

pub text-kept : (t : Text) (w : List ℕ) → length w ≡ t.size → text_of (with_text t w) ≡ w
text-kept t w e = take_at w (drop t.size t.bytes) t.size e

-- a text put over another one
pub lease-again : (l : Lease) (v w : List ℕ) → length v ≡ (bench_of l).text.size
    → holding (holding l (with_text_of (bench_of l) v)) (with_text_of (bench_of (holding l (with_text_of (bench_of l) v))) w) ≡ holding l (with_text_of (bench_of l) w)
lease-again l v w e =
    ap (λ tail. holding l (record (bench_of l) { text = record { bytes = w ++ tail; size = (bench_of l).text.size } })) (drop_at v (drop (bench_of l).text.size (bench_of l).text.bytes) (bench_of l).text.size e)

pub lease-begun : (l : Lease) → l ≡ holding l (with_text_of (bench_of l) (text_of (bench_of l).text))
lease-begun l = sym (ap (λ bytes. holding l (record (bench_of l) { text = record { bytes = bytes; size = (bench_of l).text.size } })) (take-append-drop (bench_of l).text.size (bench_of l).text.bytes))

-- what a step leaves
pub record Stepped (l new : Lease) (w : List ℕ) : Type 0 where
  pub stays : new ≡ holding l (with_text_of (bench_of l) w)
  pub text : text_of (bench_of new).text ≡ w
  pub size : (bench_of new).text.size ≡ (bench_of l).text.size
  pub schedules : (bench_of new).schedules ≡ (bench_of l).schedules

pub stepped : (l old new : Lease) (w : List ℕ) → old ≡ holding l (with_text_of (bench_of l) (text_of (bench_of old).text)) → length (text_of (bench_of old).text) ≡ (bench_of l).text.size
    → new ≡ holding old (with_text_of (bench_of old) w) → length w ≡ (bench_of l).text.size → Stepped l new w
stepped l old new w before long is size =
    let v = text_of (bench_of old).text in
    let stays : new ≡ holding l (with_text_of (bench_of l) w) = is ∙ ap (λ x. holding x (with_text_of (bench_of x) w)) before ∙ lease-again l v w long in
    record {
      stays = stays;
      text = ap (λ x. text_of (bench_of x).text) stays ∙ text-kept (bench_of l).text w size;
      size = ap (λ x. (bench_of x).text.size) stays;
      schedules = ap (λ x. (bench_of x).schedules) stays;
    }

length-undone : (c : Cipher) (keys : List Schedule) (block : List ℕ) → length (undone c keys block) ≡ 64
unfolding ded_under
length-undone cipher.Des keys block = length-crypt _ _
length-undone cipher.TripleDes keys block = length-crypt _ _

pub length-undone_bytes : (c : Cipher) (keys : List Schedule) (block : List ℕ) → length (undone_bytes c keys block) ≡ 8
unfolding to_bytes
length-undone_bytes c keys block =
    let xs = undone c keys (byte_bits block) in
    let long : length xs ≡ 64 = length-undone c keys (byte_bits block) in
    let e : length xs / 8 ≡ 8 = omega (arith, long) in
    length-map (pieces (length xs / 8) 8 xs) number ∙ length-pieces (length xs / 8) 8 xs ∙ e

-- ---- steps of the two directions

pub cbc-step-as : (e : List ℕ → List ℕ) (chain p b : List ℕ) → b ≡ e (xor p chain) → (ps : List (List ℕ)) → cbc e chain (p ∷ ps) ≡ b ∷ cbc e b ps
cbc-step-as e chain p b is ps = cbc-step e chain p ps ∙ sym (ap {B = List (List ℕ)} (λ x. x ∷ cbc e x ps) is)

-- two blocks more
pub two-more : (d : List ℕ → List ℕ) (n i : ℕ) (text chain next new : List ℕ) (out : List (List ℕ)) → 2 * i + 1 < n → length text ≡ 8 * n
    → length (xor (d (take 8 (drop (16 * i) text))) chain) ≡ 8 → length (xor (d (take 8 (drop (16 * i + 8) text))) (take 8 (drop (16 * i) text))) ≡ 8
    → next ≡ take 8 (drop (16 * i + 8) text)
    → new ≡ put_at (put_at text (16 * i) (xor (d (take 8 (drop (16 * i) text))) chain)) (16 * i + 8) (xor (d (take 8 (drop (16 * i + 8) text))) (take 8 (drop (16 * i) text)))
    → pieces (2 * i) 8 text ++ uncbc d chain (pieces (n - 2 * i) 8 (drop (8 * (2 * i)) text)) ≡ out
    → pieces (2 * (i + 1)) 8 new ++ uncbc d next (pieces (n - 2 * (i + 1)) 8 (drop (8 * (2 * (i + 1))) new)) ≡ out
two-more d n i text chain next new out h long e1 e2 is put before =
    let at : 16 * i ≡ 8 * (2 * i) = omega arith in
    let then_at : 16 * i + 8 ≡ 8 * (2 * i + 1) = omega arith in
    let p = take 8 (drop (16 * i) text) in
    let q = take 8 (drop (16 * i + 8) text) in
    let b = xor (d p) chain in
    let mid = put_at text (16 * i) b in
    let mid_long : length mid ≡ 8 * n = length-put text b (16 * i) (omega arith) e1 ∙ long in
    let one : pieces (2 * i + 1) 8 (put_at text (8 * (2 * i)) b) ++ uncbc d p (pieces (n - (2 * i + 1)) 8 (drop (8 * (2 * i + 1)) (put_at text (8 * (2 * i)) b))) ≡ out
    = text-more n (2 * i) text b (uncbc d chain) (uncbc d p) out (omega arith) long e1
    (λ ps. ap (λ k. uncbc d chain (take 8 (drop k text) ∷ ps)) (sym at) ∙ uncbc-step d chain p ps) before in
    let one_mid : pieces (2 * i + 1) 8 mid ++ uncbc d p (pieces (n - (2 * i + 1)) 8 (drop (8 * (2 * i + 1)) mid)) ≡ out
    = ap (λ k. pieces (2 * i + 1) 8 (put_at text k b) ++ uncbc d p (pieces (n - (2 * i + 1)) 8 (drop (8 * (2 * i + 1)) (put_at text k b)))) at ∙ one in
    let second : take 8 (drop (8 * (2 * i + 1)) mid) ≡ q = ap (λ k. take 8 (drop k mid)) (sym then_at) ∙ next-block text b (16 * i) (omega arith) e1 in
    let b2 = xor (d q) p in
    let two : pieces (2 * i + 1 + 1) 8 (put_at mid (8 * (2 * i + 1)) b2) ++ uncbc d q (pieces (n - (2 * i + 1 + 1)) 8 (drop (8 * (2 * i + 1 + 1)) (put_at mid (8 * (2 * i + 1)) b2))) ≡ out
    = text-more n (2 * i + 1) mid b2 (uncbc d p) (uncbc d q) out h mid_long e2
    (λ ps. ap (λ x. uncbc d p (x ∷ ps)) second ∙ uncbc-step d p q ps) one_mid in
    let wider : 2 * (i + 1) ≡ 2 * i + 1 + 1 = omega arith in
    let new_is : new ≡ put_at mid (8 * (2 * i + 1)) b2 = put ∙ ap (λ k. put_at mid k b2) then_at in
    ap (λ k. pieces k 8 new ++ uncbc d next (pieces (n - k) 8 (drop (8 * k) new))) wider
    ∙ ap (λ x. pieces (2 * i + 1 + 1) 8 x ++ uncbc d next (pieces (n - (2 * i + 1 + 1)) 8 (drop (8 * (2 * i + 1 + 1)) x))) new_is
    ∙ ap (λ x. pieces (2 * i + 1 + 1) 8 (put_at mid (8 * (2 * i + 1)) b2) ++ uncbc d x (pieces (n - (2 * i + 1 + 1)) 8 (drop (8 * (2 * i + 1 + 1)) (put_at mid (8 * (2 * i + 1)) b2)))) is
    ∙ two

-- two puts over one another
pub puts-again : (l : Lease) (v w text : List ℕ) → length v ≡ (bench_of l).text.size → w ≡ text
    → holding (holding l (with_text_of (bench_of l) v)) (with_text_of (bench_of (holding l (with_text_of (bench_of l) v))) w) ≡ holding l (with_text_of (bench_of l) text)
puts-again l v w text e is = lease-again l v w e ∙ ap (λ x. holding l (with_text_of (bench_of l) x)) is

pub start-bytes : (start : List ℕ) (n : ℕ) → length start ≡ 8 → ((i : ℕ) → get_or start i 0 < 256) → n ≡ from_be_bytes w64 start → to_be_bytes w64 n ≡ start
start-bytes start n long small is = be_bytes_8 start n long small is

pub length-xor_block : (c : Cipher) (keys : List Schedule) (block : List ℕ) (chain : List ℕ) → length chain ≡ 8 → length (xor (undone_bytes c keys block) chain) ≡ 8
length-xor_block c keys block chain e =
    let size : length (undone_bytes c keys block) ≡ 8 = length-undone_bytes c keys block in
    length-xor (undone_bytes c keys block) chain (size ∙ sym e) ∙ size

-- the last block, where it stands alone
pub last-one : (d : List ℕ → List ℕ) (n k at : ℕ) (text chain new : List ℕ) (out : List (List ℕ)) → k + 1 ≡ n → at ≡ 8 * k → length text ≡ 8 * n
    → length (xor (d (take 8 (drop at text))) chain) ≡ 8 → new ≡ put_at text at (xor (d (take 8 (drop at text))) chain)
    → pieces k 8 text ++ uncbc d chain (pieces (n - k) 8 (drop (8 * k) text)) ≡ out → new ≡ joined out
last-one d n k at text chain new out e at_is long eight put before =
    let p = take 8 (drop (8 * k) text) in
    let b = xor (d p) chain in
    let size : length b ≡ 8 = ap (λ m. length (xor (d (take 8 (drop m text))) chain)) (sym at_is) ∙ eight in
    let new_is : new ≡ put_at text (8 * k) b = put ∙ ap (λ m. put_at text m (xor (d (take 8 (drop m text))) chain)) at_is in
    let more = text-more n k text b (uncbc d chain) (uncbc d p) out (omega arith) long size (uncbc-step d chain p) before in
    new_is ∙ uncbc-done d p n (k + 1) (put_at text (8 * k) b) out e (length-put text b (8 * k) (omega arith) size ∙ long) more
