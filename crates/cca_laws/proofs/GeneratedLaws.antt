-- Where CSNBKGN leaves the keys that it makes.
use Rattle.std.proofs.Common.{◌≡◌, ℕ, ◌<◌, Bool, true, false, List, [], ◌∷◌, ◌++◌, length, get_or, Option, None, Some, IsTrue, T, refl, sym, ap, subst, ◌∙◌, codes, arith}
use Rattle.std.specs.Prelude.{All, is_none, is_some, unwrap_or, if◌then◌else◌}
use Rattle.std.specs.Str.{bytes_eq}
use Rattle.std.proofs.lemmas.List.{length-map}
use Rattle.std.proofs.lemmas.List.Elements.{All-map}
use Rattle.std.proofs.lemmas.Option.{same_Some}
use Rattle.cca_vectors.specs.Checks.{check, first_failing}
use Rattle.cca_vectors.specs.DefaultVectors.{default_for, length_of_name, size_of}
use Rattle.cca_vectors.specs.KeyTypes.{type_named}
use Rattle.cca_vectors.specs.Vectors.{IsValid}
use Rattle.cca_vectors.specs.declared.key_length.Length.{Length}
use Rattle.cca_vectors.specs.declared.key_length.Length.TheVariants.{Eight, Sixteen, Unique}
use Rattle.cca_vectors.specs.declared.key_type.KeyType.{KeyType}
use Rattle.cca_vectors.proofs.DefaultLemmas.{default_for_valid}
use Rattle.verb_rules.specs.Parity.{odd_byte}
use Rattle.key_tokens.specs.Denotes.{ClearKey}
use Rattle.key_transport.specs.Generated.{HasKeyLength, generated_key, generated_vector}
use Rattle.key_transport.specs.Tokens.{as_current, external_token}
use Rattle.key_transport.specs.UniqueHalves.{key_drawn, key_taken, repeats}
use Rattle.key_transport.proofs.GeneratedLemmas.{length-generated_vector}
use Rattle.line_service.specs.Replies.{Done, Field, Hex}
use Rattle.verb_script.specs.Grammar.{AreValues, FieldForm, IsValue, Request, Values, row_of, type_text, value_among, value_of}
use Rattle.verb_script.specs.declared.rows.RequestName.{RequestName}
use Rattle.verb_script.specs.declared.rows.RequestName.TheVariants.{CsnbkgnOp, CsnbkgnPair, CsnbkgnOut}
use Rattle.verb_script.specs.Named.{label_named}
use Rattle.cca_machine.specs.Act.{Effect, Show, Outcome, delivered_with, effect, effected, fields_after, performed, token_out, type1_of, type2_of}
use Rattle.cca_machine.specs.Choices.{key_length_named, or_data, type_in}
use Rattle.cca_machine.specs.Draws.{Draw, KeyBytes, bytes_drawn, draw_of, length_in}
use Rattle.cca_machine.specs.Keys.{any_old, key_in_field, warning}
use Rattle.cca_machine.specs.Lines.{drawn_where}
use Rattle.cca_machine.specs.Operands.{listed, operands}
use Rattle.cca_machine.specs.State.{State}
use Rattle.cca_machine.specs.Verdict.{Refusal, draw_verdict, early_verdict, or_last, target_checks}
use Rattle.cca_machine.proofs.DrawLaws.{early_none, verdict_splits}
use Rattle.cca_laws.specs.DrawnKeys.{HasKeys, IsDrawnKey, IsFirstDelivered, IsGenerating, IsKeyDelivered, IsOneSent, IsSent, IsTyped, LeavesKey}
use Rattle.cca_laws.specs.ReplyTokens.{field_in}
use Rattle.cca_laws.specs.UniqueKeys.{HasUniqueHalves, generates}
use Rattle.cca_laws.proofs.DrawnLaws.{IsByte, drawn_bytes, drawn_key_is, is_drawn_key, key_made}
use Rattle.cca_laws.proofs.Delivering.{acted, in_record, in_reply, reply_stands, token_of_it}
use Rattle.cca_laws.proofs.HalfLaws.{draws_key, not_repeated, unique_key}
use Rattle.cca_laws.proofs.LineCases.{permitted, refused_none}
use Rattle.cca_laws.proofs.MoveTokens.{IsWhole, out_denotes}
use Rattle.key_parts.proofs.TypeLemmas.{where_had}

-- ---- what its fields say

length_is : (text : List ℕ) (l : Length) → length_of_name text ≡ Some l → key_length_named text ≡ l
length_is text l is = by_tests (bytes_eq text (codes "8")) (bytes_eq text (codes "16")) (bytes_eq text (codes "DOUBLE-O")) is
  where
    by_tests : (a b c : Bool) → (if a then Some Eight else if b then Some Sixteen else if c then Some Unique else None) ≡ Some l
        → (if a then Eight else if b then Sixteen else Unique) ≡ l
    by_tests true b c same = same_Some Eight l same
    by_tests false true c same = same_Some Sixteen l same
    by_tests false false true same = same_Some Unique l same
    by_tests false false false same = cc same

abbrev is_type : Values → Bool
is_type type_text = true
is_type _ = false

-- the field of this name takes the name of a key type
abbrev takes_type : List ℕ → List FieldForm → Bool
takes_type name [] = false
takes_type name (f ∷ fs) = if bytes_eq f.name name then is_type f.values else takes_type name fs

type_value : (values : Values) (v : List ℕ) → T (is_type values) → IsValue values v → IsTrue (is_some (type_named v))
type_value type_text v takes is = is
type_value _ v takes is = absurd takes

type_there : (fs : List FieldForm) (vs : List (List ℕ)) (name : List ℕ) → T (takes_type name fs) → AreValues fs vs → IsTrue (is_some (type_named (value_among fs vs name)))
type_there [] vs name takes are = absurd takes
type_there (f ∷ fs) [] name takes are = absurd are
type_there (f ∷ fs) (v ∷ vs) name takes are = by_test (bytes_eq f.name name) takes (λ there. type_there fs vs name there are.1)
  where
    by_test : (t : Bool) → T (if t then is_type f.values else takes_type name fs)
        → (T (takes_type name fs) → IsTrue (is_some (type_named (value_among fs vs name)))) → IsTrue (is_some (type_named (if t then v else value_among fs vs name)))
    by_test true here later = type_value f.values v here are.0
    by_test false there later = later there

some_type : (o : Option KeyType) → IsTrue (is_some o) → o ≡ Some (or_data o)
some_type None is = cc is
some_type (Some kind) is = refl

-- ---- the random bytes that it takes

-- they are just those of a key of the length that is asked for, and make one
pub record IsTaken (s : State) (drawn : List ℕ) (r : Request) (l : Length) : Type 0 where
  pub asked : length_in r ≡ l
  pub long : length drawn ≡ key_taken l drawn
  pub differ : repeats l drawn ≡ false

pub is_taken : (s : State) (drawn : List ℕ) (r : Request) (l : Length) → IsGenerating s drawn r l → IsTaken s drawn r l
is_taken s drawn r l g =
    let asked : length_in r ≡ l = length_is (value_of r (codes "length")) l g.asked in
    let draw : draw_of r.name r ≡ KeyBytes l = draws_key r.name r g.generates ∙ ap KeyBytes asked in
    let early : early_verdict s r ≡ None = early_none s drawn r g.permitted in
    let whole : or_last (early_verdict s r) (draw_verdict (KeyBytes l) drawn) ≡ None =
    sym (ap (λ (d : Draw). or_last (early_verdict s r) (draw_verdict d drawn)) draw) ∙ (sym (verdict_splits s drawn r) ∙ g.permitted) in
    record {
      asked = asked;
      long = g.taken ∙ (ap (λ (v : Option Refusal). drawn_where v (bytes_drawn (draw_of r.name r) drawn)) early ∙ ap (λ (d : Draw). bytes_drawn d drawn) draw);
      differ = not_repeated l (early_verdict s r) drawn early whole;
    }

-- ---- a key that is made

some_vector : (o : Option (List ℕ)) → first_failing (check 32 (is_none o) ∷ []) ≡ None → o ≡ Some (unwrap_or o [])
some_vector None has = cc has
some_vector (Some vector) has = refl

length_made : (l : Length) (drawn : List ℕ) → length drawn ≡ key_taken l drawn → repeats l drawn ≡ false → length (key_made l drawn) ≡ size_of l
length_made Eight drawn long differ = length-map drawn odd_byte ∙ long
length_made Sixteen drawn long differ = length-map drawn odd_byte ∙ long
length_made Unique drawn long differ = (unique_key drawn long differ).0

odd_small : (byte : ℕ) → byte < 256 → odd_byte byte < 256
odd_small byte small = omega arith

module _ (s : State) (drawn : List ℕ) (l : Length) (long : length drawn ≡ key_taken l drawn) (differ : repeats l drawn ≡ false) (are : All IsByte drawn) where
  made_whole : (kind : KeyType) → HasKeyLength kind l → IsWhole (generated_key kind l drawn)
  made_whole kind has = record {
    key = record {
      size = length_made l drawn long differ ∙ sym (length-generated_vector kind l has);
      each = All-map IsByte odd_byte (key_drawn l drawn) (λ k d within. odd_small (get_or (key_drawn l drawn) k d) (drawn_bytes l drawn are k d within));
    };
    vector = where_had IsValid (default_for kind l) has (default_for_valid kind l);
  }

  module _ (r : Request) where
    typed : (field : List ℕ) → IsTrue (is_some (type_named (value_of r field))) → HasKeyLength (type_in (value_of r field)) l
        → IsTyped r field l (key_made l drawn) (generated_key (type_in (value_of r field)) l drawn)
    typed field is has = record {
      kind = type_in (value_of r field);
      type = some_type (type_named (value_of r field)) is;
      vector = some_vector (default_for (type_in (value_of r field)) l) has;
      key = refl;
    }

    -- into the record of a label or into the reply
    delivered : (clear : ClearKey) (fields : List Field) → is_none s.registers.current ≡ false → IsWhole clear → first_failing (target_checks s (label_named (value_of r (codes "to")))) ≡ None
        → IsKeyDelivered r (effected s r (delivered_with s (codes "token1") (label_named (value_of r (codes "to"))) (as_current clear) fields)) clear
    delivered clear fields full whole passes =
        let to : Option (List ℕ) = label_named (value_of r (codes "to")) in
        record {
          record_ = λ label named. in_record s (codes "token1") clear fields to label passes named;
          token = λ named. (
            token_of_it s (codes "token1") clear fields to,
            in_reply s (codes "token1") clear fields to (warning (any_old s (listed (operands r)))) refl named,
            reply_stands s (codes "token1") clear fields to full whole named,
          );
        }

    -- the second key beside one that is delivered
    second_shown : (to : Option (List ℕ)) (clear : ClearKey) (bytes : List ℕ) (more : List Field)
        → field_in (codes "token2") (Done (fields_after s (delivered_with s (codes "token1") to (as_current clear) (Hex (codes "token2") bytes ∷ [])) ++ more)) ≡ Some bytes
    second_shown None clear bytes more = refl
    second_shown (Some label) clear bytes more = refl

    sent : (o : Outcome) (field transport : List ℕ) (clear : ClearKey) → IsWhole clear → field_in field o.reply ≡ Some (token_out s r transport clear)
        → IsSent s r o field transport clear
    sent o field transport clear whole shown = record {
      bytes = external_token (key_in_field s r transport).key clear;
      shown = shown;
      stands = out_denotes (key_in_field s r transport).key clear whole;
    }

-- ---- by the request's form

abbrev asked : RequestName → List (List ℕ) → Request
asked name values = record { name = name; values = values }

-- the type in a field of this row has a name
abbrev NamesType : RequestName → List (List ℕ) → List ℕ → Type 0
NamesType name values field = IsTrue (is_some (type_named (value_of (asked name values) field)))

module _ (s : State) (drawn : List ℕ) (values : List (List ℕ)) where
  -- the key that a request of this row makes
  abbrev size_in : RequestName → Length
  size_in name = length_in (asked name values)

  abbrev key_in : RequestName → List ℕ
  key_in name = key_made (size_in name) drawn

  abbrev outcome : RequestName → Outcome
  outcome name = effected s (asked name values) (effect s drawn name (asked name values))

  module _ (name : RequestName) (l : Length) (g : IsGenerating s drawn (asked name values) l) where
    just : length drawn ≡ key_taken (size_in name) drawn
    just = let t = is_taken s drawn (asked name values) l g in subst (λ (k : Length). length drawn ≡ key_taken k drawn) (sym t.asked) t.long

    some : repeats (size_in name) drawn ≡ false
    some = let t = is_taken s drawn (asked name values) l g in subst (λ (k : Length). repeats k drawn ≡ false) (sym t.asked) t.differ

    abbrev clear_in : List ℕ → ClearKey
    clear_in field = generated_key (type_in (value_of (asked name values) field)) (size_in name) drawn

    whole_in : (field : List ℕ) → HasKeyLength (type_in (value_of (asked name values) field)) (size_in name) → IsWhole (clear_in field)
    whole_in field has = made_whole s drawn (size_in name) just some g.bytes (type_in (value_of (asked name values) field)) has

    typed_in : (field : List ℕ) → NamesType name values field → HasKeyLength (type_in (value_of (asked name values) field)) (size_in name)
        → IsTyped (asked name values) field (size_in name) (key_in name) (clear_in field)
    typed_in field is has = typed s drawn (size_in name) just some g.bytes (asked name values) field is has

    -- the first key, by a request that delivers it
    first_in : (fields : List Field) → NamesType name values (codes "type1") → HasKeyLength (type1_of (asked name values)) (size_in name)
        → is_none s.registers.current ≡ false → first_failing (target_checks s (label_named (value_of (asked name values) (codes "to")))) ≡ None
        → effect s drawn name (asked name values)
        ≡ delivered_with s (codes "token1") (label_named (value_of (asked name values) (codes "to"))) (as_current (clear_in (codes "type1"))) fields
        → IsFirstDelivered (asked name values) (outcome name) (size_in name) (key_in name)
    first_in fields is has full passes same = record {
      clear = clear_in (codes "type1");
      typed = typed_in (codes "type1") is has;
      delivered = subst (λ (e : Effect). IsKeyDelivered (asked name values) (effected s (asked name values) e) (clear_in (codes "type1"))) (sym same)
          (delivered s drawn (size_in name) just some g.bytes (asked name values) (clear_in (codes "type1")) fields full (whole_in (codes "type1") has) passes);
    }

    -- a key that is sent
    sent_in : (type field transport : List ℕ) → NamesType name values type → HasKeyLength (type_in (value_of (asked name values) type)) (size_in name)
        → field_in field (outcome name).reply ≡ Some (token_out s (asked name values) transport (clear_in type))
        → IsOneSent s (asked name values) (outcome name) (size_in name) type field transport (key_in name)
    sent_in type field transport is has shown = record {
      clear = clear_in type;
      typed = typed_in type is has;
      sent = sent s drawn (size_in name) just some g.bytes (asked name values) (outcome name) field transport (clear_in type) (whole_in type has) shown;
    }

  has_keys : (name : RequestName) (l : Length) → IsGenerating s drawn (asked name values) l
      → HasKeys name s (asked name values) (outcome name) (size_in name) (key_in name)
  has_keys CsnbkgnOp l g =
      let p = permitted s drawn (asked CsnbkgnOp values) g.permitted in
      let verb = refused_none _ _ _ p.verb in
      let to = refused_none _ _ _ p.operands in
      first_in CsnbkgnOp l g [] (type_there (row_of CsnbkgnOp).fields values (codes "type1") tt g.spelled) verb.0 p.master to.0 refl
  has_keys CsnbkgnPair l g =
      let r : Request = asked CsnbkgnPair values in
      let p = permitted s drawn r g.permitted in
      let first = refused_none _ _ _ (refused_none _ _ _ p.verb).1 in
      let second = refused_none _ _ _ first.1 in
      let to = refused_none _ _ _ (refused_none _ _ _ p.operands).1 in
      let other : List ℕ = token_out s r (codes "transport2") (clear_in CsnbkgnPair l g (codes "type2")) in (
        first_in CsnbkgnPair l g (Hex (codes "token2") other ∷ []) (type_there (row_of CsnbkgnPair).fields values (codes "type1") tt g.spelled) first.0 p.master to.0 refl,
        sent_in CsnbkgnPair l g (codes "type2") (codes "token2") (codes "transport2") (type_there (row_of CsnbkgnPair).fields values (codes "type2") tt g.spelled) second.0
            (second_shown s drawn (size_in CsnbkgnPair) (just CsnbkgnPair l g) (some CsnbkgnPair l g) g.bytes r (label_named (value_of r (codes "to")))
            (clear_in CsnbkgnPair l g (codes "type1")) other (warning (any_old s (listed (operands r))))),
      )
  has_keys CsnbkgnOut l g =
      let r : Request = asked CsnbkgnOut values in
      let p = permitted s drawn r g.permitted in
      let first = refused_none _ _ _ (refused_none _ _ _ p.verb).1 in
      let second = refused_none _ _ _ first.1 in (
        sent_in CsnbkgnOut l g (codes "type1") (codes "token1") (codes "transport1") (type_there (row_of CsnbkgnOut).fields values (codes "type1") tt g.spelled) first.0 refl,
        sent_in CsnbkgnOut l g (codes "type2") (codes "token2") (codes "transport2") (type_there (row_of CsnbkgnOut).fields values (codes "type2") tt g.spelled) second.0 refl,
      )
  has_keys _ l g = cc g.generates

-- ---- the laws

leaves_key : (s : State) (drawn : List ℕ) (r : Request) (l : Length) → IsGenerating s drawn r l → LeavesKey s r (performed s drawn r) l (key_made l drawn)
leaves_key s drawn r l g =
    let t = is_taken s drawn r l g in
    subst (λ (k : Length). LeavesKey s r (performed s drawn r) k (key_made k drawn)) t.asked
    (subst (λ (o : Outcome). LeavesKey s r o (length_in r) (key_made (length_in r) drawn)) (sym (acted s drawn r g.permitted)) (has_keys s drawn r.values r.name l g))

pub keys_are_drawn : (s : State) (drawn : List ℕ) (r : Request) (l : Length) → IsGenerating s drawn r l
    → (key : List ℕ) × IsDrawnKey l drawn key × LeavesKey s r (performed s drawn r) l key
keys_are_drawn s drawn r l g =
    let t = is_taken s drawn r l g in (key_made l drawn, is_drawn_key l drawn t.long t.differ g.bytes, leaves_key s drawn r l g)

pub halves_differ : (s : State) (drawn : List ℕ) (r : Request) → IsGenerating s drawn r Unique
    → (key : List ℕ) × LeavesKey s r (performed s drawn r) Unique key × (length key ≡ 16) × HasUniqueHalves key
halves_differ s drawn r g =
    let t = is_taken s drawn r Unique g in
    let both = unique_key drawn t.long t.differ in
    (key_made Unique drawn, leaves_key s drawn r Unique g, both.0, both.1)

-- ---- the same key, the same outcome

abbrev with_bytes : KeyType → Length → List ℕ → ClearKey
with_bytes kind l key = record { key = key; vector = generated_vector kind l }

-- what a request of this row does with a key of these bytes
abbrev effect_of : State → RequestName → Request → List ℕ → Effect
effect_of s CsnbkgnOp r key = delivered_with s (codes "token1") (label_named (value_of r (codes "to"))) (as_current (with_bytes (type1_of r) (length_in r) key)) []
effect_of s CsnbkgnPair r key =
    delivered_with s (codes "token1") (label_named (value_of r (codes "to"))) (as_current (with_bytes (type1_of r) (length_in r) key))
    (Hex (codes "token2") (token_out s r (codes "transport2") (with_bytes (type2_of r) (length_in r) key)) ∷ [])
effect_of s CsnbkgnOut r key = Show (
    Hex (codes "token1") (token_out s r (codes "transport1") (with_bytes (type1_of r) (length_in r) key))
    ∷ Hex (codes "token2") (token_out s r (codes "transport2") (with_bytes (type2_of r) (length_in r) key))
    ∷ [])
effect_of s _ r key = Show []

by_key : (s : State) (drawn : List ℕ) (name : RequestName) (r : Request) → generates name ≡ true → effect s drawn name r ≡ effect_of s name r (key_made (length_in r) drawn)
by_key s drawn CsnbkgnOp r is = refl
by_key s drawn CsnbkgnPair r is = refl
by_key s drawn CsnbkgnOut r is = refl
by_key s drawn _ r is = cc is

pub same_key : (s : State) (drawn other key : List ℕ) (r : Request) (l : Length) → IsGenerating s drawn r l → IsGenerating s other r l → IsDrawnKey l drawn key → IsDrawnKey l other key
    → performed s drawn r ≡ performed s other r
same_key s drawn other key r l g h first second =
    let t = is_taken s drawn r l g in
    let made : key_made (length_in r) drawn ≡ key_made (length_in r) other =
    ap (λ (k : Length). key_made k drawn) t.asked
    ∙ (sym (drawn_key_is l drawn key g.bytes first) ∙ (drawn_key_is l other key h.bytes second ∙ sym (ap (λ (k : Length). key_made k other) t.asked))) in
    acted s drawn r g.permitted
    ∙ (ap (effected s r) (by_key s drawn r.name r g.generates ∙ (ap (effect_of s r.name r) made ∙ sym (by_key s other r.name r h.generates)))
    ∙ sym (acted s other r h.permitted))
