-- What stands in the body of a label, piece by piece.
use Rattle.std.proofs.Common.{◌≡◌, inl, inr, ℕ, Bool, true, false, List, Option, None, Some, refl, sym, ap, subst, ◌∙◌}
use Rattle.std.specs.Prelude.{is_some, slice_index}
use Rattle.key_cells.specs.Bytes.{AreBytes}
use Rattle.key_tokens.specs.Fields.{pattern_of_token}
use Rattle.master_registers.specs.declared.patterns.Pattern.{Pattern}
use Rattle.record_bodies.specs.Labels.{IsLabel}
use Rattle.record_bodies.specs.RecordBody.{record_body, token_in, second_in, no_token, no_second, held_token, ReadsRow, ReadsPattern, HoldsToken, HoldsUnder, StandsAs, IsKept, IsKeptWith, IsTokenOf, IsFirst, IsSecond, null_kind, key_kind, both_kind}
use Rattle.record_bodies.specs.declared.rows.Row.{Row}
use Rattle.record_bodies.specs.declared.rows.Second.{Second}
use Rattle.cca_roles.specs.NameLaws.{label_short}
use Rattle.record_bodies.proofs.BodyLaws.{kind_again, token_again, second_again, length-no_token}
use Rattle.record_bodies.proofs.KeptLaws.{pattern as as_pattern}
use Rattle.record_bodies.proofs.SecondLaws.{IsLong, none_long, second_long, second_pattern}

-- ---- what stands in the body of a key

-- a body with these tokens
module _ (bytes : List ℕ) (kind : ℕ) (label token : List ℕ) (second : Second) (is : bytes ≡ record_body kind label token second) (is_label : IsLabel label) (long : AreBytes 64 token) (longs : IsLong second) where
  pub in_kind : slice_index bytes 0 ≡ kind
  in_kind = ap (λ b. slice_index b 0) is ∙ kind_again kind label token second

  pub in_token : token_in bytes ≡ token
  in_token = ap token_in is ∙ token_again kind label token second (label_short label is_label) long.size

  pub in_second : second_in bytes ≡ second
  in_second = ap second_in is ∙ second_again kind label token second (label_short label is_label) long.size longs

  pub in_body : bytes ≡ record_body (slice_index bytes 0) label (token_in bytes) (second_in bytes)
  in_body =
      is ∙ ap (λ k. record_body k label token second) (sym in_kind)
      ∙ ap (λ t. record_body (slice_index bytes 0) label t second) (sym in_token)
      ∙ ap (record_body (slice_index bytes 0) label (token_in bytes)) (sym in_second)

  in_held : (ahead : Bool) → held_token ahead (slice_index bytes 0) (token_in bytes) (second_in bytes) ≡ held_token ahead kind token second
  in_held ahead =
      ap (λ k. held_token ahead k (token_in bytes) (second_in bytes)) in_kind
      ∙ ap (λ t. held_token ahead kind t (second_in bytes)) in_token
      ∙ ap (held_token ahead kind token) in_second

  in_pair : IsFirst token → IsSecond token second → IsFirst (token_in bytes) × IsSecond (token_in bytes) (second_in bytes)
  in_pair first seconds = (
    subst IsFirst (sym in_token) first,
    subst (λ (t : List ℕ). IsSecond t (second_in bytes)) (sym in_token) (subst (IsSecond token) (sym in_second) seconds),
  )

-- what is known of a body with a key
pub record IsKeyBody (bytes label token : List ℕ) (ahead : Option Pattern) : Type 0 where
  pub held : held_token (is_some ahead) (slice_index bytes 0) (token_in bytes) (second_in bytes) ≡ token
  pub body : bytes ≡ record_body (slice_index bytes 0) label (token_in bytes) (second_in bytes)

pub key_body_is : (bytes label token : List ℕ) (ahead : Option Pattern) → IsLabel label → IsFirst token → StandsAs bytes label token ahead → IsKeyBody bytes label token ahead
key_body_is bytes label token None is_label first (inl is) =
    record {
      held = in_held bytes key_kind label token no_second is is_label first.bytes none_long false;
      body = in_body bytes key_kind label token no_second is is_label first.bytes none_long;
    }
key_body_is bytes label token None is_label first (inr t) =
    let long = second_long t.first t.second t.is_second in
    record {
      held = in_held bytes both_kind label t.first t.second t.body is_label t.is_first.bytes long false ∙ sym t.under;
      body = in_body bytes both_kind label t.first t.second t.body is_label t.is_first.bytes long;
    }
key_body_is bytes label token (Some p) is_label first b =
    let long = second_long token b.second b.is_second in
    record {
      held = in_held bytes both_kind label token b.second b.body is_label first.bytes long true;
      body = in_body bytes both_kind label token b.second b.body is_label first.bytes long;
    }

first_of : (token : List ℕ) (pattern : Pattern) → IsKept token pattern → IsFirst token
first_of token pattern is = record { bytes = is.bytes; sound = is.sound; flag = is.flag }

-- ---- the body of a row

module _ (bytes : List ℕ) (row : Row) (reads : ReadsRow bytes (Some row)) where
  pub row_body : bytes ≡ record_body (slice_index bytes 0) row.label (token_in bytes) (second_in bytes)
  row_body = by_pattern row.pattern reads.1
    where
      by_pattern : (pattern : Option Pattern) → ReadsPattern bytes row.label pattern row.ahead → bytes ≡ record_body (slice_index bytes 0) row.label (token_in bytes) (second_in bytes)
      by_pattern None is = in_null is.0
        where
          in_null : bytes ≡ record_body null_kind row.label no_token no_second → bytes ≡ record_body (slice_index bytes 0) row.label (token_in bytes) (second_in bytes)
          in_null is =
              let short = label_short row.label reads.0 in
              is
              ∙ ap (λ k. record_body k row.label no_token no_second) (sym (ap (λ b. slice_index b 0) is ∙ kind_again null_kind row.label no_token no_second))
              ∙ ap (λ t. record_body (slice_index bytes 0) row.label t no_second) (sym (ap token_in is ∙ token_again null_kind row.label no_token no_second short length-no_token))
              ∙ ap (record_body (slice_index bytes 0) row.label (token_in bytes)) (sym (ap second_in is ∙ second_again null_kind row.label no_token no_second short length-no_token none_long))
      by_pattern (Some pattern) is = (key_body_is bytes row.label is.token row.ahead reads.0 (first_of is.token pattern is.is_kept) is.body).body

  -- a null record that isn't ahead
  pub null_pieces : row.pattern ≡ None → (slice_index bytes 0 ≡ null_kind) × (token_in bytes ≡ no_token) × (second_in bytes ≡ no_second) × (row.ahead ≡ None)
  null_pieces none =
      let is : (bytes ≡ record_body null_kind row.label no_token no_second) × (row.ahead ≡ None) = subst (λ (p : Option Pattern). ReadsPattern bytes row.label p row.ahead) none reads.1 in
      let short = label_short row.label reads.0 in (
        ap (λ b. slice_index b 0) is.0 ∙ kind_again null_kind row.label no_token no_second,
        ap token_in is.0 ∙ token_again null_kind row.label no_token no_second short length-no_token,
        ap second_in is.0 ∙ second_again null_kind row.label no_token no_second short length-no_token none_long,
        is.1,
      )

  -- the pieces of a key
  pub key_pieces : (pattern : Pattern) → row.pattern ≡ Some pattern → HoldsUnder pattern row.ahead (slice_index bytes 0) (token_in bytes) (second_in bytes)
  key_pieces pattern some =
      let holds : HoldsToken bytes row.label pattern row.ahead = subst (λ (p : Option Pattern). ReadsPattern bytes row.label p row.ahead) some reads.1 in
      by_ahead row.ahead holds.token holds.is_kept holds.body
    where
      by_ahead : (ahead : Option Pattern) (token : List ℕ) → IsKept token pattern → StandsAs bytes row.label token ahead → HoldsUnder pattern ahead (slice_index bytes 0) (token_in bytes) (second_in bytes)
      by_ahead None token kept (inl is) = inl (
        in_kind bytes key_kind row.label token no_second is reads.0 kept.bytes none_long,
        in_second bytes key_kind row.label token no_second is reads.0 kept.bytes none_long,
        subst (λ (t : List ℕ). IsKept t pattern) (sym (in_token bytes key_kind row.label token no_second is reads.0 kept.bytes none_long)) kept,
      )
      by_ahead None token kept (inr t) =
          let long = second_long t.first t.second t.is_second in
          let pair = in_pair bytes both_kind row.label t.first t.second t.body reads.0 t.is_first.bytes long t.is_first t.is_second in
          inr (
            in_kind bytes both_kind row.label t.first t.second t.body reads.0 t.is_first.bytes long,
            pair.0,
            pair.1,
            ap (λ (s : Second). s.pattern) (in_second bytes both_kind row.label t.first t.second t.body reads.0 t.is_first.bytes long)
                ∙ ap as_pattern (sym (second_pattern t.first t.second t.is_second.pattern.size) ∙ ap pattern_of_token (sym t.under) ∙ kept.under),
          )
      by_ahead (Some ahead) token kept b =
          let long = second_long token b.second b.is_second in (
            in_kind bytes both_kind row.label token b.second b.body reads.0 kept.bytes long,
            subst (λ (t : List ℕ). IsKept t pattern) (sym (in_token bytes both_kind row.label token b.second b.body reads.0 kept.bytes long)) kept,
            (in_pair bytes both_kind row.label token b.second b.body reads.0 kept.bytes long (first_of token pattern kept) b.is_second).1,
            ap (λ (s : Second). s.pattern) (in_second bytes both_kind row.label token b.second b.body reads.0 kept.bytes long) ∙ b.beside,
          )

-- where the token of a key stands in a body with these tokens
pub pieces_stand : (bytes label token : List ℕ) (kind : ℕ) (second : Second) (pattern : Pattern) (ahead : Option Pattern) → bytes ≡ record_body kind label token second → HoldsUnder pattern ahead kind token second
    → StandsAs bytes label (held_token (is_some ahead) kind token second) ahead
pieces_stand bytes label token kind second pattern None is (inl one) =
    subst (λ (k : ℕ). StandsAs bytes label (held_token false k token second) None) (sym one.0)
    (inl (is ∙ ap (λ k. record_body k label token second) one.0 ∙ ap (record_body key_kind label token) one.1))
pieces_stand bytes label token kind second pattern None is (inr two) =
    subst (λ (k : ℕ). StandsAs bytes label (held_token false k token second) None) (sym two.0)
    (inr (record { first = token; second = second; is_first = two.1; is_second = two.2; under = refl; body = is ∙ ap (λ k. record_body k label token second) two.0 }))
pieces_stand bytes label token kind second pattern (Some ahead) is two =
    subst (λ (k : ℕ). StandsAs bytes label (held_token true k token second) (Some ahead)) (sym two.0)
    (record { second = second; is_second = two.2; beside = two.3; body = is ∙ ap (λ k. record_body k label token second) two.0 })

-- the token of a label is the one that its body holds
pub token_is_held : (bytes : List ℕ) (row : Row) (token : List ℕ) → IsLabel row.label → IsTokenOf bytes row token → held_token (is_some row.ahead) (slice_index bytes 0) (token_in bytes) (second_in bytes) ≡ token
token_is_held bytes row token is_label is = (key_body_is bytes row.label token row.ahead is_label (by_pattern row.pattern is.kept) is.stands).held
  where
    by_pattern : (pattern : Option Pattern) → IsKeptWith pattern token → IsFirst token
    by_pattern None kept = absurd kept
    by_pattern (Some pattern) kept = first_of token pattern kept
