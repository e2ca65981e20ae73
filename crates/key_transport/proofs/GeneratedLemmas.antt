-- Keys that are made of random bytes, and their tokens.
use Rattle.std.proofs.Common.{◌≡◌, ℕ, ◌-◌, ◌≤◌, List, [], ◌∷◌, ◌++◌, Option, None, Some, length, map, take, ⊎_elim, true, refl, sym, ap, subst, ◌∙◌, arith}
use Rattle.std.specs.Prelude.{◌⊎◌, IfSome, IsSome, is_none, unwrap_or}
use Rattle.std.proofs.lemmas.List.{length-map, length-take-le, take_at}
use Rattle.cca_vectors.specs.declared.key_length.Length.{Length}
use Rattle.cca_vectors.specs.declared.key_length.Length.TheVariants.{Eight, Sixteen, Unique}
use Rattle.cca_vectors.specs.Checks.{check, first_failing}
use Rattle.cca_vectors.specs.DefaultVectors.{default_for, default_vector, size_of}
use Rattle.cca_vectors.specs.Vectors.{length_of}
use Rattle.cca_vectors.specs.declared.key_type.KeyType.{KeyType}
use Rattle.cca_vectors.proofs.DefaultLemmas.{default_for_length, default_length}
use Rattle.verb_rules.specs.Parity.{odd_byte}
use Rattle.std.specs.Option.{option_copied}
use Rattle.std.specs.Borrow.{Bor}
use Rattle.key_cells.specs.Bench.{Bench}
use Rattle.key_cells.specs.Lease.{bench_of, holding}
use Rattle.key_cells.specs.declared.leases.Lease.{Lease}
use Rattle.multi_encipher.specs.Bundles.{ChangesSchedules}
use Rattle.verb_rules.specs.Keys.{IsDouble, opened}
use Rattle.key_transport.specs.Changes.{ChangesKeys}
use Rattle.key_tokens.specs.Denotes.{ClearKey}
use Rattle.master_registers.specs.Masters.{Masters}
use Rattle.verb_rules.specs.declared.judging.Judged.{Judged}
use Rattle.key_transport.specs.Tokens.{current_token, external_token, key_with}
use Rattle.key_transport.specs.Generated.{AreGiven, DrawsBytes, DrawsKey, HasKeyLength, IsGiven, is_operational, HasLength, HaveLength, generated_key, generated_tokens, generated_vector, transport_key, vector_for}
use Rattle.key_transport.specs.UniqueHalves.{key_drawn}
use Rattle.key_transport.specs.declared.generating.Form.{Form}
use Rattle.key_transport.specs.declared.generating.Generated.{Generated}
use Rattle.key_transport.specs.declared.generating.Form.TheVariants.{Op, Opex, Opim, Imex, Exex, Imim}

length_where : (o : Option (List ℕ)) (size : ℕ) → first_failing (check 32 (is_none o) ∷ []) ≡ None → IfSome o (λ v. length_of v ≡ size) → length_of (unwrap_or o []) ≡ size
length_where None size has h = cc
length_where (Some v) size has h = h

-- the vector of a type that has a length is that of keys of this length
pub length-vector_for : (kind : KeyType) (size : ℕ) → HasLength kind size → length_of (vector_for kind size) ≡ size
length-vector_for kind size has = length_where (default_vector kind size) size has (default_length kind size)

-- and that of a type that has a length
pub length-generated_vector : (kind : KeyType) (key_length : Length) → HasKeyLength kind key_length → length_of (generated_vector kind key_length) ≡ size_of key_length
length-generated_vector kind key_length has = length_where (default_for kind key_length) (size_of key_length) has (default_for_length kind key_length)

size_short : (key_length : Length) → size_of key_length ≤ 16
size_short Eight = omega arith
size_short Sixteen = omega arith
size_short Unique = omega arith

-- the bytes that were drawn, once their parity is odd
pub odd_drawn : (key_length : Length) (before after : Option (List ℕ)) (place odd rest : List ℕ) → length place ≡ 16 → odd ≡ map odd_byte (take (size_of key_length) place)
    → DrawsBytes key_length before after place → DrawsKey key_length before after (odd ++ rest)
odd_drawn key_length before after place odd rest long is drawn =
    let size = size_of key_length in
    let fits : size ≤ length place = omega (arith, size_short key_length, long) in
    let as_long : length odd ≡ size = ap length is ∙ (length-map (take size place) odd_byte ∙ length-take-le size place fits) in
    record { draw = drawn.draw; key = take_at odd rest size as_long ∙ (is ∙ ap (map odd_byte) drawn.bytes) }

-- they are the key in the place `Key`
pub key_is_generated : (kind : KeyType) (key_length : Length) (bench : Bench) (drawn : List ℕ)
    → take (size_of key_length) bench.key ≡ map odd_byte (key_drawn key_length drawn) → HasKeyLength kind key_length
    → key_with bench (generated_vector kind key_length) ≡ generated_key kind key_length drawn
key_is_generated kind key_length bench drawn key has =
    let vector = generated_vector kind key_length in
    let whole : length_of vector - 0 ≡ size_of key_length = omega (arith, length-generated_vector kind key_length has) in
    ap (λ n. record { key = take n bench.key; vector = vector }) whole ∙ ap (λ k. record { key = k; vector = vector }) key

-- the transport keys don't hang on the place `Key`
pub transport_stays : (bench : Bench) (place : List ℕ) (judged : Option Judged) → transport_key (record bench { key = place }) judged ≡ transport_key bench judged
transport_stays bench place None = refl
transport_stays bench place (Some judged) = refl

-- the first type of a form has the length
pub first_has : (form : Form) (first second : KeyType) (key_length : Length) → HaveLength form first second key_length → HasKeyLength first key_length
first_has Op first second key_length has = has
first_has Opex first second key_length has = has.0
first_has Opim first second key_length has = has.0
first_has Imex first second key_length has = has.0
first_has Exex first second key_length has = has.0
first_has Imim first second key_length has = has.0

-- the same tokens, where the keys that the form asks for are the same
pub same_tokens : (m : Masters) (form : Form) (first second : KeyType) (key_length : Length) (one two : List ℕ) (a b c d : ClearKey) → HaveLength form first second key_length
    → (HasKeyLength first key_length → a ≡ c) → (HasKeyLength second key_length → b ≡ d) → generated_tokens m form one two a b ≡ generated_tokens m form one two c d
same_tokens m Op first second key_length one two a b c d has f s = ap (λ k. record { first = current_token m k; second = None }) (f has)
same_tokens m Opex first second key_length one two a b c d has f s =
    ap (λ k. record { first = current_token m k; second = Some (external_token two b) }) (f has.0)
    ∙ ap (λ k. record { first = current_token m c; second = Some (external_token two k) }) (s has.1)
same_tokens m Opim first second key_length one two a b c d has f s =
    ap (λ k. record { first = current_token m k; second = Some (external_token two b) }) (f has.0)
    ∙ ap (λ k. record { first = current_token m c; second = Some (external_token two k) }) (s has.1)
same_tokens m Imex first second key_length one two a b c d has f s =
    ap (λ k. record { first = external_token one k; second = Some (external_token two b) }) (f has.0)
    ∙ ap (λ k. record { first = external_token one c; second = Some (external_token two k) }) (s has.1)
same_tokens m Exex first second key_length one two a b c d has f s =
    ap (λ k. record { first = external_token one k; second = Some (external_token two b) }) (f has.0)
    ∙ ap (λ k. record { first = external_token one c; second = Some (external_token two k) }) (s has.1)
same_tokens m Imim first second key_length one two a b c d has f s =
    ap (λ k. record { first = external_token one k; second = Some (external_token two b) }) (f has.0)
    ∙ ap (λ k. record { first = external_token one c; second = Some (external_token two k) }) (s has.1)

-- ---- the tokens of a form

-- a form with an internal and an external key, and one with two external keys
abbrev pub IsMixed : Form → Type 0
IsMixed form = (form ≡ Opex) ⊎ (form ≡ Opim)

abbrev pub IsExternal : Form → Type 0
IsExternal form = (form ≡ Imex) ⊎ ((form ≡ Exex) ⊎ (form ≡ Imim))

-- what holds of each of them
of_mixed : (P : Form → Type 0) (form : Form) → P Opex → P Opim → IsMixed form → P form
of_mixed P form opex opim is = ⊎_elim (λ one. subst P (sym one) opex) (λ one. subst P (sym one) opim) is

of_external : (P : Form → Type 0) (form : Form) → P Imex → P Exex → P Imim → IsExternal form → P form
of_external P form imex exex imim is =
    ⊎_elim (λ one. subst P (sym one) imex) (λ more. ⊎_elim (λ one. subst P (sym one) exex) (λ one. subst P (sym one) imim) more) is

abbrev pub two_tokens : List ℕ → Option (List ℕ) → Generated
two_tokens first second = record { first = first; second = second }

module _ (m : Masters) (form : Form) (one two : List ℕ) (first second : ClearKey) (a b : List ℕ) where
  pub op_tokens : form ≡ Op → a ≡ current_token m first → two_tokens a None ≡ generated_tokens m form one two first second
  op_tokens is token = subst (λ (f : Form). two_tokens a None ≡ generated_tokens m f one two first second) (sym is) (ap (λ t. two_tokens t None) token)

  pub mixed_tokens : IsMixed form → a ≡ current_token m first → b ≡ external_token two second → two_tokens a (Some b) ≡ generated_tokens m form one two first second
  mixed_tokens is token other =
      let both = ap (λ t. two_tokens t (Some b)) token ∙ ap (λ t. two_tokens (current_token m first) (Some t)) other in
      of_mixed (λ f. two_tokens a (Some b) ≡ generated_tokens m f one two first second) form both both is

  pub external_tokens : IsExternal form → a ≡ external_token one first → b ≡ external_token two second → two_tokens a (Some b) ≡ generated_tokens m form one two first second
  external_tokens is token other =
      let both = ap (λ t. two_tokens t (Some b)) token ∙ ap (λ t. two_tokens (external_token one first) (Some t)) other in
      of_external (λ f. two_tokens a (Some b) ≡ generated_tokens m f one two first second) form both both both is

pub not_operational : (form : Form) → IsExternal form → is_operational form ≡ true → ⊥
not_operational form is = of_external (λ f. is_operational f ≡ true → ⊥) form (λ no. cc no) (λ no. cc no) (λ no. cc no) is

-- ---- its types and its transport keys

module _ (form : Form) (first second : KeyType) (key_length : Length) (has : HaveLength form first second key_length) where
  pub mixed_has : IsMixed form → HasKeyLength second key_length
  mixed_has is = of_mixed (λ f. HaveLength f first second key_length → HasKeyLength second key_length) form (λ both. both.1) (λ both. both.1) is has

  pub external_has : IsExternal form → HasKeyLength second key_length
  external_has is = of_external (λ f. HaveLength f first second key_length → HasKeyLength second key_length) form (λ both. both.1) (λ both. both.1) (λ both. both.1) is has

module _ (form : Form) (one two : Option Judged) (given : AreGiven form one two) where
  pub mixed_given : IsMixed form → IsGiven two
  mixed_given is = of_mixed (λ f. AreGiven f one two → IsGiven two) form (λ two. two) (λ two. two) is given

  pub external_given : IsExternal form → IsGiven one × IsGiven two
  external_given is = of_external (λ f. AreGiven f one two → IsGiven one × IsGiven two) form (λ both. both) (λ both. both) (λ both. both) is given

pub some_given : (o : Option (Bor Judged)) → IsGiven (option_copied o) → IsSome o
some_given None given = absurd given
some_given (Some r) given = refl

pub given_is : (o : Option (Bor Judged)) (r : Bor Judged) → o ≡ Some r → IsGiven (option_copied o) → IsDouble r.now
given_is o r is given = subst (λ (x : Option (Bor Judged)). IsGiven (option_copied x)) is given

-- ---- the lease between two tokens

-- the place `First` and the schedules may have changed
abbrev pub KeepsKey : Lease → Lease → Type 0
KeepsKey old new = new ≡ holding old (record (bench_of old) { first = (bench_of new).first; schedules = (bench_of new).schedules })

pub key_kept : (old new : Lease) → ChangesSchedules old new → KeepsKey old new
key_kept old new keeps = keeps ∙ ap (λ (l : Lease). holding old (record (bench_of old) { first = (bench_of l).first; schedules = (bench_of new).schedules })) (sym keeps)

pub keys_change : (old new : Lease) → KeepsKey old new → ChangesKeys old new
keys_change old new keeps = keeps ∙ ap (λ (l : Lease). holding old (record (bench_of old) { first = (bench_of new).first; key = (bench_of l).key; schedules = (bench_of new).schedules })) (sym keeps)

pub key_kept_then : (first between last : Lease) → KeepsKey first between → KeepsKey between last → KeepsKey first last
key_kept_then first between last one two =
    two ∙ ap (λ (l : Lease). holding l (record (bench_of l) { first = (bench_of last).first; schedules = (bench_of last).schedules })) one

-- the external token of a key that still stands in the place `Key`
pub under_token : (old new : Lease) (o : Option (Bor Judged)) (r : Bor Judged) (vector wanted result : List ℕ) → KeepsKey old new → result ≡ external_token (opened (bench_of new) r.now).key (key_with (bench_of new) vector)
    → vector ≡ wanted → o ≡ Some r → result ≡ external_token (transport_key (bench_of old) (option_copied o)) (key_with (bench_of old) wanted)
under_token old new o r vector wanted result keeps is same given =
    is
    ∙ ap (λ (l : Lease). external_token (opened (bench_of l) r.now).key (key_with (bench_of l) vector)) keeps
    ∙ ap (λ v. external_token (opened (bench_of old) r.now).key (key_with (bench_of old) v)) same
    ∙ ap (λ (x : Option (Bor Judged)). external_token (transport_key (bench_of old) (option_copied x)) (key_with (bench_of old) wanted)) (sym given)
