use Rattle.std.proofs.Common.{◌≡◌, ◌+◌, ◌-◌, ℕ, List, [], ◌∷◌, ◌++◌, length, replicate, refl, ap, ◌∙◌, length-append}
use Rattle.audit_trail.specs.RecordBody.{record_body}
use Rattle.audit_trail.proofs.FieldLaws.{role_size, verb_size, label_size}
use Rattle.audit_trail.proofs.bodies.write_record.Goals as goal

-- a body whose front is written, and the others are zero
record Front (body front : List ℕ) (at : ℕ) : Type 0 where
  long : length front ≡ at
  is : body ≡ front ++ replicate (192 - at) 0

further : (body new front piece : List ℕ) (at k : ℕ) → ((f : List ℕ) → length f ≡ at → body ≡ f ++ replicate (192 - at) 0 → new ≡ (f ++ piece) ++ replicate (192 - (at + length piece)) 0)
    → length piece ≡ k → Front body front at → Front new (front ++ piece) (at + k)
further body new front piece at k put size so_far = record {
  long = length-append front piece ∙ ap (λ (n : ℕ). n + length piece) so_far.long ∙ ap (λ (n : ℕ). at + n) size;
  is = put front so_far.long so_far.is ∙ ap (λ (n : ℕ). (front ++ piece) ++ replicate (192 - (at + n)) 0) size;
}

pub returns : goal.returns
unfolding record_body
returns c =
    let e = c.args.entry.now in
    let zeros : Front c.fill.new.self [] 0 = record { long = refl; is = c.fill.ensures.after (λ y is. is) ∙ ap (λ (n : ℕ). replicate n 0) c.told-body } in
    let one = further _ _ _ _ 0 2 c.put_next.ensures refl zeros in
    let two = further _ _ _ _ 2 8 c.put_next-2.ensures (ap length c.to_be_bytes-number.ensures) one in
    let three = further _ _ _ _ 10 8 c.put_next-3.ensures (role_size e c.requires) two in
    let four = further _ _ _ _ 18 10 c.put_next-4.ensures (verb_size e c.requires) three in
    let five = further _ _ _ _ 28 1 c.put_next-5.ensures refl four in
    let six = further _ _ _ _ 29 64 c.put_next-6.ensures (label_size e c.requires) five in
    six.is ∙ ap (λ (n : List ℕ). (1 ∷ e.rule ∷ []) ++ n ++ e.role ++ e.verb ++ (e.label_length ∷ []) ++ e.label ++ replicate 99 0) c.to_be_bytes-number.ensures
