-- The rules of a key part that is combined with a further part, and the operand that breaks one.
use Rattle.std.proofs.Common.{◌≡◌, ◌∙◌, ◌/◌, ◌-◌, ℕ, Bool, true, false, not, List, [], ◌∷◌, codes, None, Some, length, take, refl, sym, ap, subst, arith, rules}
use Rattle.std.specs.Prelude.{◌==◌, if◌then◌else◌}
use Rattle.cca_vectors.specs.Checks.{check, first_failing}
use Rattle.cca_vectors.specs.Vectors.{is_part_of, length_of}
use Rattle.key_cells.specs.Bench.{Bench, key_of, with_key}
use Rattle.key_cells.specs.Lease.{bench_of, holding}
use Rattle.key_cells.specs.declared.leases.Lease.{Lease}
use Rattle.key_cells.specs.declared.places.KeyPlace.TheVariants as KeyPlace
use Rattle.key_parts.specs.Changes.{ClearsParts}
use Rattle.key_parts.specs.Parts.{combined_key, key_with_fresh}
use Rattle.key_tokens.specs.Denotes.{denoted}
use Rattle.key_transport.specs.Tokens.{as_current, current_token}
use Rattle.master_registers.specs.Loaded.{Loaded}
use Rattle.master_registers.specs.Masters.{Masters}
use Rattle.master_registers.specs.declared.registers.Registers.{Registers}
use Rattle.verb_rules.specs.Keys.{keys_of, opened}
use Rattle.verb_rules.specs.declared.judging.Judged.{Judged}
use Rattle.verb_script.specs.Values.{hex_value}
use Rattle.cca_machine.specs.Verdict.{first_refusal, further_part_questions, questions, refusal}
use Rattle.cca_machine.specs.Deciding.{MakesToken}

pub part_refusal : (same whole : Bool) (n : ℕ) → first_failing (check 32 (not same) ∷ check 35 whole ∷ []) ≡ Some n
    → first_refusal (questions (codes "part") (check 32 (not same) ∷ []) ∷ questions (codes "key") (check 35 whole ∷ []) ∷ [])
    ≡ Some (refusal n (if same then codes "key" else codes "part"))
part_refusal false whole n is = let rule : 32 ≡ n = cc in ap (λ k. Some (refusal k (codes "part"))) rule
part_refusal true true n is = let rule : 35 ≡ n = cc in ap (λ k. Some (refusal k (codes "key"))) rule
part_refusal true false n is = cc is

pub part_permitted : (same whole : Bool) → first_failing (check 32 (not same) ∷ check 35 whole ∷ []) ≡ None
    → first_refusal (questions (codes "part") (check 32 (not same) ∷ []) ∷ questions (codes "key") (check 35 whole ∷ []) ∷ []) ≡ None
part_permitted false whole is = cc is
part_permitted true true is = cc is
part_permitted true false is = refl

-- what no rule refuses has the length of the key, which is a part
pub part_meets : (same part : Bool) → first_refusal (questions (codes "part") (check 32 (not same) ∷ []) ∷ questions (codes "key") (check 35 (not part) ∷ []) ∷ []) ≡ None
    → (same ≡ true) × (part ≡ true)
part_meets false part none = cc none
part_meets true false none = cc none
part_meets true true none = (refl, refl)

all_of : (a b : ℕ) → (a == b) ≡ true → a ≡ b - 0
all_of a b same = grind arith

module _ (held : Registers) (old middle new : Lease) (key : Judged) (last : Bool) (part token : List ℕ)
    (put : middle ≡ holding old (with_key (bench_of old) KeyPlace.Fresh (key_of (bench_of middle) KeyPlace.Fresh))) where
  abbrev fresh : List ℕ
  fresh = key_of (bench_of middle) KeyPlace.Fresh

  now : bench_of middle ≡ with_key (bench_of old) KeyPlace.Fresh fresh
  now = ap bench_of put

  -- the key is opened and combined as before the part was put in
  combined_is : take (length part / 2) (bench_of middle).fresh ≡ hex_value part
      → first_refusal (further_part_questions key.token.vector (length part / 2)) ≡ None
      → key_with_fresh (bench_of middle) key last ≡ combined_key last (opened (bench_of old) key) (hex_value part)
  combined_is first permitted =
      let same : length part / 2 ≡ length_of key.token.vector - 0 = all_of (length part / 2) (length_of key.token.vector) (part_meets (length part / 2 == length_of key.token.vector) (is_part_of key.token.vector) permitted).0 in
      ap (λ n. combined_key last (opened (bench_of middle) key) (take n (bench_of middle).fresh)) (sym same)
      ∙ (ap (combined_key last (opened (bench_of middle) key)) first
      ∙ ap (λ (b : Bench). combined_key last (opened b key) (hex_value part)) now)

  loaded_on : (m : Masters) → Loaded m held (bench_of old) → Loaded m held (bench_of middle)
  loaded_on m loaded = subst (Loaded m held) (sym now) (record {
    valid = loaded.valid;
    placed = record { coming = loaded.placed.coming; current = loaded.placed.current; former = loaded.placed.former };
    told = loaded.told;
  })

  -- the token of a key that a part was combined with
  pub makes_combined : take (length part / 2) (bench_of middle).fresh ≡ hex_value part
      → first_refusal (further_part_questions key.token.vector (length part / 2)) ≡ None
      → ((m : Masters) → Loaded m held (bench_of middle) → token ≡ current_token m (key_with_fresh (bench_of middle) key last))
      → ((m : Masters) → Loaded m held (bench_of middle) → denoted (keys_of m) token ≡ Some (as_current (key_with_fresh (bench_of middle) key last)))
      → ClearsParts middle new
      → MakesToken held (as_current (combined_key last (opened (bench_of old) key) (hex_value part))) old new token
  makes_combined first permitted made stands clears =
      let clear = combined_is first permitted in
      record {
        made = λ m loaded. made m (loaded_on m loaded) ∙ ap (current_token m) clear;
        stands = λ m loaded. stands m (loaded_on m loaded) ∙ ap (λ k. Some (as_current k)) clear;
        places = search rules;
      }
