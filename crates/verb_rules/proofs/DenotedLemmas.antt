-- The key that a token stands for is the one that the bench opens it to.
use Rattle.std.proofs.Common.{◌≡◌, ℕ, Bool, true, false, List, Option, None, Some, refl, sym, ap, ◌∙◌}
use Rattle.std.specs.Prelude.{if◌then◌else◌, is_none}
use Rattle.std.specs.Option.{option_map}
use Rattle.std.specs.Str.{bytes_eq}
use Rattle.cca_vectors.specs.Checks.{first_failing}
use Rattle.key_cells.specs.Bench.{Bench}
use Rattle.key_tokens.specs.declared.key_token.Age.{Age}
use Rattle.key_tokens.specs.declared.key_token.Age.TheVariants.{Current, Old}
use Rattle.key_tokens.specs.declared.key_token.Asked.TheVariants as asked
use Rattle.key_tokens.specs.declared.key_token.Kind.TheVariants as kind
use Rattle.key_tokens.specs.declared.key_token.Token.{Token}
use Rattle.key_tokens.specs.Denotes.{Denoted, clear_of, denoted, denoted_or, denoted_under}
use Rattle.key_tokens.specs.Fields.{token_of, pattern_of_token}
use Rattle.key_tokens.specs.TokenChecks.{token_checks}
use Rattle.master_registers.specs.Masters.{Masters, kept_bytes, pattern_of_master}
use Rattle.master_registers.specs.Loaded.{Loaded, has_pattern, pattern_in}
use Rattle.master_registers.specs.declared.registers.Registers.{Registers}
use Rattle.multi_encipher.specs.Bundles.{transport_bundle}
use Rattle.verb_rules.specs.KeyChecks.{age_in, age_of, register_with}
use Rattle.verb_rules.specs.Keys.{keys_of, master_key, opened, opened_key, opened_under}
use Rattle.verb_rules.specs.declared.judging.Judged.{Judged}

abbrev pub judged_with : Token → Option Age → Judged
judged_with token age = record { token = token; age = age }

abbrev pub judged_as : List ℕ → Option Age → Judged
judged_as bytes age = judged_with (token_of bytes) age

abbrev key_by : Bench → List ℕ → Age → Denoted
key_by bench bytes age = record { clear = opened bench (judged_as bytes (Some age)); age = age }

abbrev age_by : Bool → Age → Option Age → Option Age
age_by b age other = if b then Some age else other

by_test : (b : Bool) (bench : Bench) (bytes : List ℕ) (age : Age) (key : Denoted) (rest : Option Denoted) (ages : Option Age) → key ≡ key_by bench bytes age
    → rest ≡ option_map (key_by bench bytes) ages → (if b then Some key else rest) ≡ option_map (key_by bench bytes) (age_by b age ages)
by_test true bench bytes age key rest ages is others = ap Some is
by_test false bench bytes age key rest ages is others = others

abbrev clear_denoted : List ℕ → List ℕ → Age → Denoted
clear_denoted parts bytes age = record { clear = clear_of parts bytes; age = age }

by_old : (former : Option (List ℕ)) (bench : Bench) (bytes : List ℕ) → bench.former ≡ kept_bytes former
    → denoted_or (master_key former) Old bytes None ≡ option_map (key_by bench bytes) (age_by (has_pattern (pattern_in former) (pattern_of_token bytes)) Old None)
by_old None bench bytes placed = refl
by_old (Some x) bench bytes placed =
    by_test (bytes_eq (pattern_of_token bytes) (pattern_of_master x)) bench bytes Old (clear_denoted x bytes Old) None None
    (ap (λ parts. clear_denoted parts bytes Old) (sym placed)) refl

by_current : (current former : Option (List ℕ)) (bench : Bench) (bytes : List ℕ) → bench.current ≡ kept_bytes current → bench.former ≡ kept_bytes former
    → denoted_or (master_key current) Current bytes (denoted_or (master_key former) Old bytes None)
    ≡ option_map (key_by bench bytes) (age_by (has_pattern (pattern_in current) (pattern_of_token bytes)) Current (age_by (has_pattern (pattern_in former) (pattern_of_token bytes)) Old None))
by_current None former bench bytes current_placed former_placed = by_old former bench bytes former_placed
by_current (Some x) former bench bytes current_placed former_placed =
    by_test (bytes_eq (pattern_of_token bytes) (pattern_of_master x)) bench bytes Current (clear_denoted x bytes Current)
    (denoted_or (master_key former) Old bytes None) (age_by (has_pattern (pattern_in former) (pattern_of_token bytes)) Old None)
    (ap (λ parts. clear_denoted parts bytes Current) (sym current_placed)) (by_old former bench bytes former_placed)

-- a token that breaks no rule denotes the key that its halves are under the register that has its pattern
pub denoted_by_age : (m : Masters) (held : Registers) (bench : Bench) (bytes : List ℕ) → Loaded m held bench → first_failing (token_checks asked.Internal bytes) ≡ None
    → denoted (keys_of m) bytes ≡ option_map (key_by bench bytes) (register_with held (pattern_of_token bytes))
unfolding denoted
denoted_by_age m held bench bytes loaded passes =
    ap (λ (v : Option ℕ). if is_none v then denoted_or (master_key m.current) Current bytes (denoted_or (master_key m.former) Old bytes None) else None) passes
    ∙ (by_current m.current m.former bench bytes loaded.placed.current loaded.placed.former
    ∙ ap (λ (h : Registers). option_map (key_by bench bytes) (register_with h (pattern_of_token bytes))) (sym loaded.told))

opened_of : (bench : Bench) (bytes : List ℕ) (age : Option Age) → option_map (key_by bench bytes) age ≡ opened_key bench (judged_as bytes age)
opened_of bench bytes None = refl
opened_of bench bytes (Some age) = refl

-- it is the key to which the bench opens the judged token
pub denoted_opened : (m : Masters) (held : Registers) (bench : Bench) (bytes : List ℕ) (judged : Judged) → Loaded m held bench
    → first_failing (token_checks asked.Internal bytes) ≡ None
    → judged ≡ judged_as bytes (register_with held (pattern_of_token bytes)) → denoted (keys_of m) bytes ≡ opened_key bench judged
denoted_opened m held bench bytes judged loaded passes is =
    denoted_by_age m held bench bytes loaded passes
    ∙ (opened_of bench bytes (register_with held (pattern_of_token bytes)) ∙ ap (opened_key bench) (sym is))

-- a token that is under neither register denotes no key, nor does one that breaks a rule
pub denoted_refused : (m : Masters) (bytes : List ℕ) (n : ℕ) → first_failing (token_checks asked.Internal bytes) ≡ Some n → denoted (keys_of m) bytes ≡ None
unfolding denoted
denoted_refused m bytes n fails =
    ap (λ (v : Option ℕ). if is_none v then denoted_or (master_key m.current) Current bytes (denoted_or (master_key m.former) Old bytes None) else None) fails

-- an external token denotes, under a transport key, the key that its halves are
pub denoted_under_opened : (transport bytes : List ℕ) (judged : Judged) → first_failing (token_checks asked.External bytes) ≡ None → judged.token ≡ token_of bytes
    → denoted_under transport bytes ≡ Some (opened_under transport judged)
unfolding denoted_under
denoted_under_opened transport bytes judged passes is =
    ap (λ (v : Option ℕ). if is_none v then Some (clear_of (transport_bundle transport) bytes) else None) passes
    ∙ ap (λ token. Some (opened_under transport (record { token = token; age = judged.age }))) (sym is)

-- a token that was read as internal, with the register that has its pattern
pub judged_is : (held : Registers) (bytes : List ℕ) (token : Token) → token ≡ token_of bytes → token.kind ≡ kind.Internal
    → judged_with token (age_of held token) ≡ judged_as bytes (register_with held (pattern_of_token bytes))
judged_is held bytes token is internal =
    ap (λ (t : Token). judged_with t (age_of held t)) is
    ∙ ap (λ k. judged_as bytes (age_in held k (pattern_of_token bytes))) (sym (ap (λ (t : Token). t.kind) is) ∙ internal)
