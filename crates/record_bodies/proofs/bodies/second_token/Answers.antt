use Rattle.std.proofs.Common.{◌≡◌, ◌∙◌, refl, sym, ap, arith}
use Rattle.cca_roles.proofs.DirectoryLaws.{none_some}
use Rattle.cca_vectors.specs.Vectors.{length_of}
use Rattle.key_tokens.specs.Fields.{vector_bytes_of}
use Rattle.key_tokens.specs.TokenChecks.{rule_of}
use Rattle.key_tokens.specs.Layout.{made}
use Rattle.key_tokens.specs.declared.key_token.Asked.TheVariants as asked
use Rattle.key_tokens.specs.declared.key_token.Kind.TheVariants.{Internal}
use Rattle.key_tokens.specs.declared.key_token.Token.{Token}
use Rattle.record_bodies.specs.RecordBody.{second_token}
use Rattle.record_bodies.proofs.ExitLaws.{never}
use Rattle.record_bodies.proofs.bodies.second_token.Goals as goal
use Rattle.record_bodies.proofs.bodies.second_token.Goals.{else-length-eq8-via-then-length-eq8+else-not-is_zero, else-length-eq8-via-else-length-eq8}

pub returns-in-Err-clause-none : goal.returns-in-Err-clause-none
returns-in-Err-clause-none c _ first second = none_some (rule_of c.in-Err.field-0) (sym first.sound ∙ c.in-Err.ensures.refused)

pub returns-else-length-eq8-clause-first : goal.returns-else-length-eq8-clause-first
returns-else-length-eq8-clause-first c _ = record { bytes = c.are_bytes.ensures; sound = c.in-Ok.ensures.accepted; flag = c.if-token-ne-KEY_AND_VECTOR.false }

pub returns-else-length-eq8-clause-second : goal.returns-else-length-eq8-clause-second
returns-else-length-eq8-clause-second c _ =
    let length_is : c.length.result ≡ length_of (vector_bytes_of c.args.token.now) = c.length.ensures.length ∙ ap (λ (t : Token). length_of t.vector) c.in-Ok.ensures.token in
    record {
      pattern = c.are_second.ensures.pattern;
      left = c.are_second.ensures.left;
      right = c.are_second.ensures.right;
      single = λ single. elim c.else-length-eq8.branch [
        | else-length-eq8-via-then-length-eq8+else-not-is_zero w ↦ w.is_zero.ensures.zero.0 w.if-not-is_zero.false
        | else-length-eq8-via-else-length-eq8 w ↦ absurd (w.if-length-eq8.false (length_is ∙ single))
      ];
    }

pub returns-else-length-eq8-clause-found : goal.returns-else-length-eq8-clause-found
unfolding second_token
returns-else-length-eq8-clause-found c =
    c.write_token-written.ensures.made
    ∙ ap (λ (t : Token). made (record { kind = Internal; pattern = c.args.second.now.pattern.bytes; sealed = c.args.second.now.sealed; vector = t.vector })) c.in-Ok.ensures.token

pub returns-else-length-eq8-clause-sound : goal.returns-else-length-eq8-clause-sound
returns-else-length-eq8-clause-sound c = record {
  bytes = c.are_bytes-in-Ok.ensures;
  sound = c.write_token-written.ensures.accepted asked.Internal refl;
  flag = c.write_token-written.ensures.flag;
  under = ap (λ (t : Token). t.pattern) c.write_token-written.ensures.fields;
}

pub bounds-token-6 : goal.bounds-token-6
bounds-token-6 c = omega arith

pub returns-then-token-ne-KEY_AND_VECTOR-clause-none : goal.returns-then-token-ne-KEY_AND_VECTOR-clause-none
returns-then-token-ne-KEY_AND_VECTOR-clause-none c _ first _ = c.if-token-ne-KEY_AND_VECTOR.true first.flag

pub returns-then-token-ne-KEY_AND_VECTOR-clause-found : goal.returns-then-token-ne-KEY_AND_VECTOR-clause-found
returns-then-token-ne-KEY_AND_VECTOR-clause-found c = tt

pub returns-then-token-ne-KEY_AND_VECTOR-clause-first : goal.returns-then-token-ne-KEY_AND_VECTOR-clause-first
returns-then-token-ne-KEY_AND_VECTOR-clause-first c is = never is

pub returns-then-token-ne-KEY_AND_VECTOR-clause-second : goal.returns-then-token-ne-KEY_AND_VECTOR-clause-second
returns-then-token-ne-KEY_AND_VECTOR-clause-second c is = never is

pub returns-then-token-ne-KEY_AND_VECTOR-clause-sound : goal.returns-then-token-ne-KEY_AND_VECTOR-clause-sound
returns-then-token-ne-KEY_AND_VECTOR-clause-sound c = tt

pub are_bytes-requires : goal.are_bytes-requires
are_bytes-requires c = tt

pub are_second-requires : goal.are_second-requires
are_second-requires c = tt

pub read_token-requires : goal.read_token-requires
read_token-requires c = tt

pub length-requires : goal.length-requires
length-requires c = tt

pub is_zero-requires : goal.is_zero-requires
is_zero-requires c = tt

pub returns-then-not-is_zero-clause-none : goal.returns-then-not-is_zero-clause-none
returns-then-not-is_zero-clause-none c _ first second =
    let length_is : c.length.result ≡ length_of (vector_bytes_of c.args.token.now) = c.length.ensures.length ∙ ap (λ (t : Token). length_of t.vector) c.in-Ok.ensures.token in
    never (sym c.if-not-is_zero.true ∙ c.is_zero.ensures.zero.1 (second.single (sym length_is ∙ c.if-length-eq8.true)))

pub returns-then-not-is_zero-clause-found : goal.returns-then-not-is_zero-clause-found
returns-then-not-is_zero-clause-found c = tt

pub returns-then-not-is_zero-clause-first : goal.returns-then-not-is_zero-clause-first
returns-then-not-is_zero-clause-first c is = never is

pub returns-then-not-is_zero-clause-second : goal.returns-then-not-is_zero-clause-second
returns-then-not-is_zero-clause-second c is = never is

pub returns-then-not-is_zero-clause-sound : goal.returns-then-not-is_zero-clause-sound
returns-then-not-is_zero-clause-sound c = tt

pub write_token-written-requires-clause-pattern : goal.write_token-written-requires-clause-pattern
write_token-written-requires-clause-pattern c = tt

pub write_token-written-requires-clause-right : goal.write_token-written-requires-clause-right
write_token-written-requires-clause-right c single =
    elim c.else-length-eq8.branch [
      | else-length-eq8-via-then-length-eq8+else-not-is_zero w ↦ w.is_zero.ensures.zero.0 w.if-not-is_zero.false
      | else-length-eq8-via-else-length-eq8 w ↦ absurd (w.if-length-eq8.false (c.length.ensures.length ∙ single))
    ]

pub are_bytes-requires-in-Ok : goal.are_bytes-requires-in-Ok
are_bytes-requires-in-Ok c = tt

pub returns-else-length-eq8-clause-none : goal.returns-else-length-eq8-clause-none
returns-else-length-eq8-clause-none c is _ _ = never (sym is)

pub returns-in-Err-clause-found : goal.returns-in-Err-clause-found
returns-in-Err-clause-found c = tt

pub returns-in-Err-clause-first : goal.returns-in-Err-clause-first
returns-in-Err-clause-first c is = never is

pub returns-in-Err-clause-second : goal.returns-in-Err-clause-second
returns-in-Err-clause-second c is = never is

pub returns-in-Err-clause-sound : goal.returns-in-Err-clause-sound
returns-in-Err-clause-sound c = tt
