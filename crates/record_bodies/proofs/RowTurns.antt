-- Rows of labels that are turned: the second token breaks no rule, and is then the one that the label is under.
use Rattle.std.proofs.Common.{◌≡◌, inr, ℕ, zero, suc, List, [], ◌∷◌, get_or, map, Option, None, Some, refl, sym, ap, subst, ◌∙◌}
use Rattle.std.specs.Prelude.{slice_index}
use Rattle.key_cells.specs.Bytes.{AreBytes}
use Rattle.cca_vectors.specs.Checks.{first_failing}
use Rattle.device_cells.specs.Cells.{body}
use Rattle.key_tokens.specs.Layout.{IsToken}
use Rattle.key_tokens.specs.TokenChecks.{token_checks}
use Rattle.key_tokens.specs.declared.key_token.Asked.TheVariants as asked
use Rattle.key_tokens.proofs.Layouts.{none_from_token, token_from_none}
use Rattle.key_tokens.proofs.Written.{flag-made, made-token}
use Rattle.master_registers.specs.declared.patterns.Pattern.{Pattern}
use Rattle.record_bodies.specs.Entries.{turned, turned_by}
use Rattle.record_bodies.specs.RecordBody.{second_token, second_fields, HoldsToken, IsBeside, IsFirst, IsKept, IsSecond, ReadsPattern, ReadsRow}
use Rattle.record_bodies.specs.StoreStands.{HoldsRows}
use Rattle.record_bodies.specs.declared.rows.Row.{Row}
use Rattle.record_bodies.specs.declared.rows.Second.{Second}
use Rattle.record_bodies.proofs.SecondLaws.{fits, second_bytes, second_pattern}

module _ (token : List ℕ) (second : Second) (first : IsFirst token) (is : IsSecond token second) where
  next_bytes : AreBytes 64 (second_token token second)
  next_bytes = second_bytes token second first is

  pub is_next : IsToken (second_token token second) (second_fields token second)
  unfolding second_token
  is_next =
      made-token (second_fields token second) is.pattern.size is.left.size is.right.size
      (token_from_none asked.Internal token first.bytes.size (fits token first.bytes) first.sound).0.vector tt is.single

  next_sound : first_failing (token_checks asked.Internal (second_token token second)) ≡ None
  next_sound = none_from_token asked.Internal (second_token token second) next_bytes.size (fits (second_token token second) next_bytes) (second_fields token second) is_next refl

  next_flag : slice_index (second_token token second) 6 ≡ 0xc0
  unfolding second_token
  next_flag = flag-made (second_fields token second)

  pub second_kept : (pattern : Pattern) → second.pattern ≡ pattern → IsKept (second_token token second) pattern
  second_kept pattern beside = record {
    bytes = next_bytes;
    sound = next_sound;
    flag = next_flag;
    under = second_pattern token second is.pattern.size ∙ ap (λ (p : Pattern). p.bytes) beside;
  }

kept_first : (token : List ℕ) (pattern : Pattern) → IsKept token pattern → IsFirst token
kept_first token pattern is = record { bytes = is.bytes; sound = is.sound; flag = is.flag }

token_turns : (bytes label : List ℕ) (pattern ahead : Pattern) → HoldsToken bytes label pattern (Some ahead) → HoldsToken bytes label ahead None
token_turns bytes label pattern ahead holds =
    let beside : IsBeside bytes label holds.token ahead = holds.body in
    let first = kept_first holds.token pattern holds.is_kept in
    record {
      token = second_token holds.token beside.second;
      is_kept = second_kept holds.token beside.second first beside.is_second ahead beside.beside;
      body = inr (record {
        first = holds.token;
        second = beside.second;
        is_first = first;
        is_second = beside.is_second;
        under = refl;
        body = beside.body;
      });
    }

pattern_turns : (bytes label : List ℕ) (pattern ahead : Option Pattern) → ReadsPattern bytes label pattern ahead → ReadsPattern bytes label (turned_by ahead pattern) None
pattern_turns bytes label None None reads = reads
pattern_turns bytes label None (Some ahead) reads = let no : Some ahead ≡ None = reads.1 in absurd (cc no)
pattern_turns bytes label (Some pattern) None reads = reads
pattern_turns bytes label (Some pattern) (Some ahead) reads = token_turns bytes label pattern ahead reads

row_turns : (bytes : List ℕ) (o : Option Row) → ReadsRow bytes o → ReadsRow bytes (turned o)
row_turns bytes None reads = reads
row_turns bytes (Some r) reads = (reads.0, pattern_turns bytes r.label r.pattern r.ahead reads.1)

turned_at : (rows : List (Option Row)) (n : ℕ) → get_or (map turned rows) n None ≡ turned (get_or rows n None)
turned_at [] n = refl
turned_at (r ∷ rows) zero = refl
turned_at (r ∷ rows) (suc n) = turned_at rows n

pub rows_turn : (rows : List (Option Row)) (image : List ℕ) → HoldsRows rows image → HoldsRows (map turned rows) image
rows_turn rows image holds = record {
  reads = λ n within. subst (ReadsRow (body image n)) (sym (turned_at rows n)) (row_turns (body image n) (get_or rows n None) (holds.reads n within));
}
