-- Keys that are generated: their rules, and what is left with the random bytes that were drawn.
use Rattle.std.proofs.Common.{◌≡◌, ℕ, Bool, true, false, List, Option, None, Some, refl, sym, ap, subst, ◌∙◌, codes}
use Rattle.std.specs.Prelude.{bytes_eq, if◌then◌else◌}
use Rattle.cca_vectors.specs.Checks.{first_failing}
use Rattle.cca_vectors.specs.KeyTypes.{type_name}
use Rattle.cca_vectors.specs.declared.key_length.Length.{Length}
use Rattle.cca_vectors.specs.declared.key_type.KeyType.{KeyType}
use Rattle.cca_vectors.specs.declared.key_type.KeyType.TheVariants as kind
use Rattle.key_tokens.specs.Denotes.{ClearKey}
use Rattle.key_transport.specs.Generated.{HasKeyLength, HaveLength, generated_tokens, is_operational}
use Rattle.key_transport.specs.Tokens.{current_token, external_token}
use Rattle.key_transport.specs.declared.generating.Form.TheVariants.{Opex, Opim, Imex, Exex, Imim}
use Rattle.master_registers.specs.Masters.{Masters}
use Rattle.verb_rules.specs.TypeChecks.{length_checks, pair_checks}
use Rattle.cca_machine.specs.Choices.{key_length_named, out_form_named, pair_form_named, type_in}
use Rattle.cca_machine.specs.Verdict.{Refusal, first_refusal, generate_questions, or_refused, pair_questions, refusal}
use Rattle.cca_machine.specs.Refusals.{HasRefused}
use Rattle.cca_machine.specs.declared.refusals.Refusal.{Refusal as CodeRefusal}
use Rattle.cca_machine.proofs.CutReplies.{none_of}

-- the name of a type names it
pub type_is : (type : KeyType) → type_in (type_name type) ≡ type
type_is kind.Data = refl
type_is kind.Datac = refl
type_is kind.Datam = refl
type_is kind.Datamv = refl
type_is kind.Cipher = refl
type_is kind.Encipher = refl
type_is kind.Decipher = refl
type_is kind.Mac = refl
type_is kind.Macver = refl
type_is kind.Exporter = refl
type_is kind.Importer = refl
type_is kind.Okeyxlat = refl
type_is kind.Ikeyxlat = refl

-- ---- the rules

pub one_length : (type : KeyType) (key_length : Length) → first_refusal (generate_questions type key_length) ≡ None → HasKeyLength type key_length
one_length type key_length is = (none_of (first_failing (length_checks type key_length)) (codes "length") None is).0

pub two_lengths : (first second : KeyType) (key_length : Length) → first_refusal (pair_questions first second key_length) ≡ None
    → HasKeyLength first key_length × HasKeyLength second key_length
two_lengths first second key_length is =
    let one = first_refusal (generate_questions second key_length) in
    let both = none_of (first_failing (pair_checks first second)) (codes "type2") (or_refused (first_failing (length_checks first key_length)) (codes "length") one) is in
    let lengths = none_of (first_failing (length_checks first key_length)) (codes "length") one both.1 in
    (lengths.0, one_length second key_length lengths.1)

refused_first : (x : Option ℕ) (operand : List ℕ) (others : Option Refusal) (r : Refusal) → or_refused x operand None ≡ Some r → or_refused x operand others ≡ Some r
refused_first None operand others r is = cc is
refused_first (Some rule) operand others r is = is

-- the first of two types hasn't the length
pub first_refused : (first second : KeyType) (key_length : Length) (r : Refusal) → first_failing (pair_checks first second) ≡ None
    → first_refusal (generate_questions first key_length) ≡ Some r → first_refusal (pair_questions first second key_length) ≡ Some r
first_refused first second key_length r none is =
    let rule = first_failing (length_checks first key_length) in
    let other = first_refusal (generate_questions second key_length) in
    ap (λ (x : Option ℕ). or_refused x (codes "type2") (or_refused rule (codes "length") other)) none ∙ refused_first rule (codes "length") other r is

-- the two types don't go together
pub pair_refused : (first second : KeyType) (key_length : Length) (n : ℕ) → first_failing (pair_checks first second) ≡ Some n
    → first_refusal (pair_questions first second key_length) ≡ Some (refusal n (codes "type2"))
pair_refused first second key_length n is =
    let others = or_refused (first_failing (length_checks first key_length)) (codes "length") (first_refusal (generate_questions second key_length)) in
    ap (λ (x : Option ℕ). or_refused x (codes "type2") others) is

-- they go together, and the first has the length
pub second_judged : (first second : KeyType) (key_length : Length) (r : Option CodeRefusal) → first_failing (pair_checks first second) ≡ None
    → first_refusal (generate_questions first key_length) ≡ None → HasRefused (first_refusal (generate_questions second key_length)) r
    → HasRefused (first_refusal (pair_questions first second key_length)) r
second_judged first second key_length r none lengths judged =
    let rule = first_failing (length_checks first key_length) in
    let other = first_refusal (generate_questions second key_length) in
    subst (λ (v : Option Refusal). HasRefused v r)
    (sym (ap (λ (x : Option ℕ). or_refused x (codes "type2") (or_refused rule (codes "length") other)) none
    ∙ ap (λ (x : Option ℕ). or_refused x (codes "length") other) (one_length first key_length lengths))) judged

-- ---- the forms

pub pair_lengths : (text : List ℕ) (first second : KeyType) (key_length : Length) → HasKeyLength first key_length × HasKeyLength second key_length
    → HaveLength (pair_form_named text) first second key_length
pair_lengths text first second key_length both = by_test (bytes_eq text (codes "OPEX"))
  where
    by_test : (b : Bool) → HaveLength (if b then Opex else Opim) first second key_length
    by_test true = both
    by_test false = both

pub out_lengths : (text : List ℕ) (first second : KeyType) (key_length : Length) → HasKeyLength first key_length × HasKeyLength second key_length
    → HaveLength (out_form_named text) first second key_length
out_lengths text first second key_length both = by_tests (bytes_eq text (codes "IMEX")) (bytes_eq text (codes "EXEX"))
  where
    by_tests : (a b : Bool) → HaveLength (if a then Imex else if b then Exex else Imim) first second key_length
    by_tests true b = both
    by_tests false true = both
    by_tests false false = both

pub pair_operational : (text : List ℕ) → is_operational (pair_form_named text) ≡ true
pair_operational text = by_test (bytes_eq text (codes "OPEX"))
  where
    by_test : (b : Bool) → is_operational (if b then Opex else Opim) ≡ true
    by_test true = refl
    by_test false = refl

module _ (m : Masters) (text one two : List ℕ) (first second : ClearKey) where
  pub pair_tokens : generated_tokens m (pair_form_named text) one two first second
      ≡ record { first = current_token m first; second = Some (external_token two second) }
  pair_tokens = by_test (bytes_eq text (codes "OPEX"))
    where
      by_test : (b : Bool) → generated_tokens m (if b then Opex else Opim) one two first second
          ≡ record { first = current_token m first; second = Some (external_token two second) }
      by_test true = refl
      by_test false = refl

  pub out_tokens : generated_tokens m (out_form_named text) one two first second
      ≡ record { first = external_token one first; second = Some (external_token two second) }
  out_tokens = by_tests (bytes_eq text (codes "IMEX")) (bytes_eq text (codes "EXEX"))
    where
      by_tests : (a b : Bool) → generated_tokens m (if a then Imex else if b then Exex else Imim) one two first second
          ≡ record { first = external_token one first; second = Some (external_token two second) }
      by_tests true b = refl
      by_tests false true = refl
      by_tests false false = refl

-- ---- types by their names

pair_types : (one two : KeyType) (key_length : Length)
    → pair_questions (type_in (type_name one)) (type_in (type_name two)) key_length ≡ pair_questions one two key_length
pair_types one two key_length =
    ap (λ (k : KeyType). pair_questions k (type_in (type_name two)) key_length) (type_is one) ∙ ap (λ (k : KeyType). pair_questions one k key_length) (type_is two)

-- the rules of a request that names a type and a length
pub one_verdict : (type : KeyType) (text : List ℕ) (key_length : Length) → key_length ≡ key_length_named text
    → first_refusal (generate_questions (type_in (type_name type)) (key_length_named text)) ≡ first_refusal (generate_questions type key_length)
one_verdict type text key_length is =
    ap (λ (k : KeyType). first_refusal (generate_questions k (key_length_named text))) (type_is type)
    ∙ ap (λ (n : Length). first_refusal (generate_questions type n)) (sym is)

-- and of one that names two types
pub two_verdict : (one two : KeyType) (text : List ℕ) (key_length : Length) → key_length ≡ key_length_named text
    → first_refusal (pair_questions (type_in (type_name one)) (type_in (type_name two)) (key_length_named text)) ≡ first_refusal (pair_questions one two key_length)
two_verdict one two text key_length is =
    ap first_refusal (pair_types one two (key_length_named text)) ∙ ap (λ (n : Length). first_refusal (pair_questions one two n)) (sym is)
