-- A key that is brought in by parts, from delivery to delivery.
use Rattle.std.proofs.Common.{◌≡◌, ◌≢◌, ℕ, ◌/◌, ◌==◌, Bool, true, false, not, List, [], ◌∷◌, ◌++◌, length, map, Option, None, Some, refl, sym, ap, subst, ◌∙◌, codes}
use Rattle.std.specs.Prelude.{All, fold, ◌&&◌, is_none}
use Rattle.std.proofs.lemmas.Bool.Decides.{Decides-eqb}
use Rattle.std.proofs.lemmas.List.Elements.{All-cons, All-head, All-nil, All-push, All-tail}
use Rattle.std.proofs.lemmas.Option.{same_Some}
use Rattle.key_cells.specs.Bytes.{AreBytes, xor}
use Rattle.cca_vectors.specs.Checks.{check, first_failing}
use Rattle.cca_vectors.specs.DefaultVectors.{default_vector}
use Rattle.cca_vectors.specs.KeyTypes.{type_name}
use Rattle.cca_vectors.specs.PartVectors.{as_part}
use Rattle.cca_vectors.specs.Vectors.{IsValid, is_part_of, length_of}
use Rattle.cca_vectors.specs.declared.key_type.KeyType.{KeyType}
use Rattle.cca_vectors.proofs.DefaultLemmas.{default_valid}
use Rattle.cca_vectors.proofs.Judging.{passed_over}
use Rattle.cca_vectors.proofs.PartLemmas.{part_length, part_valid}
use Rattle.key_parts.specs.Parts.{combined_key, first_key, xor_all}
use Rattle.key_parts.proofs.PartLemmas.{after_last, before_last}
use Rattle.key_parts.proofs.XorLemmas.{bytes-xor}
use Rattle.key_tokens.specs.Denotes.{ClearKey, Denoted}
use Rattle.key_tokens.specs.Fields.{token_of}
use Rattle.key_tokens.specs.TokenChecks.{token_checks}
use Rattle.key_tokens.specs.declared.key_token.Asked.{Asked}
use Rattle.key_tokens.specs.declared.key_token.Asked.TheVariants.{Internal}
use Rattle.key_transport.specs.Generated.{HasLength, vector_for}
use Rattle.key_transport.specs.Tokens.{as_current}
use Rattle.master_registers.specs.Loaded.{registers_of}
use Rattle.verb_rules.specs.KeyChecks.{key_checks, pattern_check, read_checks, vector_use_checks}
use Rattle.verb_rules.specs.declared.needs.Need.{Need}
use Rattle.verb_script.specs.Grammar.{Request, value_of}
use Rattle.verb_script.specs.Named.{label_named}
use Rattle.verb_script.specs.Values.{hex_value}
use Rattle.cca_machine.specs.Act.{Outcome, delivered, effect, effected, performed, state_after, written_in}
use Rattle.cca_machine.specs.Choices.{is_last_part, type_in}
use Rattle.cca_machine.specs.Keys.{any_old, key_in_text, key_named, key_of_label, key_of_request, key_of_token, or_no_key, warning}
use Rattle.cca_machine.specs.Operands.{Operand, listed, operands}
use Rattle.cca_machine.specs.State.{State}
use Rattle.cca_machine.specs.Verdict.{key_questions, operand_checks, refusal, target_checks, verdict}
use Rattle.cca_machine.specs.declared.asking.Ask.{Ask}
use Rattle.cca_laws.specs.KeyInParts.{IsReached, SameRecord}
use Rattle.cca_laws.specs.PassedParts.{AreDelivered, AsksWholeKey, Delivers, Entered, Names, PartEntry, SparesLabel, entry_bytes, entry_parts, entry_size, first_entry, further_entry}
use Rattle.cca_laws.specs.ReplyTokens.{field_in}
use Rattle.cca_laws.proofs.Delivering.{acted, in_reply, nothing_written, token_of_it}
use Rattle.cca_laws.proofs.KeyTokens.{written}
use Rattle.cca_laws.proofs.LineCases.{permitted, refused_none}
use Rattle.cca_laws.proofs.MoveTokens.{IsWhole}
use Rattle.cca_laws.proofs.PartLaws.{cells_stay, first_length, key_found, label_refused, operand_refused, other_stays, part_bytes, stands, type_is, with_key}
use Rattle.cca_laws.proofs.UseLaws.{not_false, check_passes}
use Rattle.key_parts.proofs.TypeLemmas.{where_had}

-- ---- what a text names

-- a key, which rule 17 refuses where it is a part
record HasKey (t : State) (text : List ℕ) (clear : ClearKey) : Type 0 where
  key : key_in_text t text ≡ Some (as_current clear)
  refused : (need : Need) → need.asked ≡ Internal → need.parts ≡ false → is_part_of clear.vector ≡ true
      → first_failing (key_questions t need (label_named text) text) ≡ Some 17

-- what a request that delivers this key leaves
record Leaves (s now : State) (to text : List ℕ) (clear : ClearKey) : Type 0 where
  has : HasKey now text clear
  others : (label : List ℕ) → label_named to ≢ Some label → SameRecord s now label
  roles : now.roles ≡ s.roles
  registers : now.registers ≡ s.registers

-- a token that is a part
part_token : (need : Need) (t : State) (bytes : List ℕ) (vector : List ℕ) → first_failing (token_checks Internal bytes) ≡ None → (token_of bytes).vector ≡ vector
    → need.asked ≡ Internal → need.parts ≡ false → is_part_of vector ≡ true → first_failing (key_checks need (registers_of t.registers) bytes) ≡ Some 17
part_token need t bytes vector passes is asks whole part =
    let rest = pattern_check (registers_of t.registers) (token_of bytes) ∷ vector_use_checks need (token_of bytes).vector in
    ap (λ (a : Asked). first_failing (token_checks a bytes ++ read_checks need (registers_of t.registers) (token_of bytes))) asks
    ∙ (passed_over (token_checks Internal bytes) (read_checks need (registers_of t.registers) (token_of bytes)) passes
    ∙ (ap (λ b. first_failing (check 17 (not b && is_part_of (token_of bytes).vector) ∷ rest)) whole
    ∙ ap (λ b. first_failing (check 17 b ∷ rest)) (ap is_part_of is ∙ part)))

module _ (s : State) (r : Request) (clear : ClearKey) (whole : IsWhole clear) (permits : verdict s [] r ≡ None) (full : is_none s.registers.current ≡ false)
    (delivers : effect s [] r.name r ≡ delivered s (codes "token") (label_named (value_of r (codes "to"))) (as_current clear)) where
  abbrev to : Option (List ℕ)
  to = label_named (value_of r (codes "to"))

  it_is : performed s [] r ≡ effected s r (delivered s (codes "token") to (as_current clear))
  it_is = acted s [] r permits ∙ ap (effected s r) delivers

  abbrev fits : State → List ℕ → Type 0
  fits now text = Leaves s now (value_of r (codes "to")) text clear

  -- into the reply
  as_token : to ≡ None → (text : List ℕ) → Names r (performed s [] r) text → fits (performed s [] r).state text
  as_token named text names =
      let given = names.token named in
      let token : List ℕ = token_of_it s (codes "token") clear [] to in
      let still : (performed s [] r).state ≡ s = ap (λ (o : Outcome). o.state) it_is ∙ nothing_written s (codes "token") clear [] to named in
      let shown : field_in (codes "token") (performed s [] r).reply ≡ Some token =
      ap (λ (o : Outcome). field_in (codes "token") o.reply) it_is ∙ in_reply s (codes "token") clear [] to (warning (any_old s (listed (operands r)))) refl named in
      let spelled : hex_value given.0 ≡ token = same_Some (hex_value given.0) token (sym given.2 ∙ shown) in
      let w = written s.registers clear whole full in
      subst (λ (now : State). fits now text) (sym still) (record {
        has = record {
          key = ap (key_in_text s) given.1 ∙ (ap (key_of_token s) spelled ∙ w.stands);
          refused = λ need asks parts part.
              ap (λ x. first_failing (key_questions s need (label_named x) x)) given.1
              ∙ (ap (λ bytes. first_failing (key_checks need (registers_of s.registers) bytes)) spelled
              ∙ part_token need s token clear.vector w.passes w.vector asks parts part);
        };
        others = λ label apart. record { cell = refl; key = refl };
        roles = refl;
        registers = refl;
      })

  -- into the record of a label
  as_record : (label : List ℕ) → to ≡ Some label → first_failing (target_checks s to) ≡ None → (text : List ℕ) → Names r (performed s [] r) text
      → fits (performed s [] r).state text
  as_record label named passes text names =
      let there = stands s label (sym (ap (λ (o : Option (List ℕ)). first_failing (target_checks s o)) named) ∙ passes) in
      let d : Denoted = as_current clear in
      let next : State = with_key s there.cell d in
      let now : (performed s [] r).state ≡ next =
      ap (λ (o : Outcome). o.state) it_is
      ∙ (ap (λ (o : Option (List ℕ)). state_after s (delivered s (codes "token") o d)) named
      ∙ ap (λ (c : Option ℕ). record s { labels = written_in c d s.labels }) there.held) in
      let same : text ≡ value_of r (codes "to") = names.label label named in
      let found : key_of_label next label ≡ Some d = key_found s label there.cell there.held d in
      let of_label : label_named text ≡ Some label = ap label_named same ∙ named in
      subst (λ (t : State). fits t text) (sym now) (record {
        has = record {
          key = ap (λ (o : Option (List ℕ)). key_named next o text) of_label ∙ found;
          refused = λ need asks parts part.
              ap (λ (o : Option (List ℕ)). first_failing (key_questions next need o text)) of_label
              ∙ label_refused next label there.well there.cell (cells_stay s label there.cell there.held d label ∙ there.held) d found part need parts;
        };
        others = λ other apart. record {
          cell = cells_stay s label there.cell there.held d other;
          key = other_stays s label there.cell there.held d other (λ is. apart (named ∙ ap (λ l. Some l) (sym is)));
        };
        roles = refl;
        registers = refl;
      })

  leaves : first_failing (target_checks s to) ≡ None → (text : List ℕ) → Names r (performed s [] r) text → fits (performed s [] r).state text
  leaves passes text names = by_name to refl
    where
      by_name : (o : Option (List ℕ)) → label_named (value_of r (codes "to")) ≡ o → fits (performed s [] r).state text
      by_name None named = as_token named text names
      by_name (Some label) named = as_record label named passes text names

-- ---- FIRST

record IsFirst (s now : State) (kind : KeyType) (e : PartEntry) (text : List ℕ) : Type 0 where
  has : HasLength kind (length (entry_bytes e))
  bytes : AreBytes (length (entry_bytes e)) (entry_bytes e)
  left : Leaves s now e.to text (first_key kind (entry_bytes e))

first_whole : (kind : KeyType) (part : List ℕ) → HasLength kind (length part) → AreBytes (length part) part → IsWhole (first_key kind part)
first_whole kind part has bytes = record {
  key = subst (λ n. AreBytes n part) (sym (first_length kind (length part) has)) bytes;
  vector = part_valid (vector_for kind (length part)) (where_had IsValid (default_vector kind (length part)) has (default_valid kind (length part)));
}

first_left : (s now : State) (kind : KeyType) (e : PartEntry) (text : List ℕ) → Delivers s (first_entry kind e) now text → IsFirst s now kind e text
first_left s now kind e text d =
    let r : Request = first_entry kind e in
    let p = permitted s [] r d.permitted.permitted in
    let bytes : AreBytes (length e.part / 2) (entry_bytes e) = part_bytes e.part d.permitted.spelled.1.1.1.0 in
    let verb : HasLength (type_in (type_name kind)) (length e.part / 2) = (refused_none _ (codes "part") None p.verb).0 in
    let has : HasLength kind (length (entry_bytes e)) =
    subst (HasLength kind) (sym bytes.size) (subst (λ (k : KeyType). HasLength k (length e.part / 2)) (type_is kind) verb) in
    let sized : AreBytes (length (entry_bytes e)) (entry_bytes e) = subst (λ n. AreBytes n (entry_bytes e)) (sym bytes.size) bytes in
    let delivers : effect s [] r.name r ≡ delivered s (codes "token") (label_named e.to) (as_current (first_key kind (entry_bytes e))) =
    ap (λ (k : KeyType). delivered s (codes "token") (label_named e.to) (as_current (first_key k (entry_bytes e)))) (type_is kind) in
    record {
      has = has;
      bytes = sized;
      left = subst (λ (t : State). Leaves s t e.to text (first_key kind (entry_bytes e))) (sym d.after)
          (leaves s r (first_key kind (entry_bytes e)) (first_whole kind (entry_bytes e) has sized) d.permitted.permitted p.master delivers (refused_none _ _ _ p.operands).0 text d.named);
    }

-- ---- MIDDLE and LAST

module _ (size : ℕ) where
  -- a whole key of this many bytes
  record IsSized (clear : ClearKey) : Type 0 where
    whole : IsWhole clear
    size_ : length_of clear.vector ≡ size

  combined_whole : (last : Bool) (clear : ClearKey) (part : List ℕ) → IsSized clear → AreBytes size part → IsSized (combined_key last clear part)
  combined_whole false clear part is bytes = record {
    whole = record {
      key = subst (λ n. AreBytes n (xor clear.key part)) (sym is.size_) (bytes-xor size clear.key part (subst (λ n. AreBytes n clear.key) is.size_ is.whole.key) bytes);
      vector = is.whole.vector;
    };
    size_ = is.size_;
  }
  combined_whole true clear part is bytes =
      let long : length_of (as_part clear.vector) ≡ size = part_length clear.vector is.whole.vector ∙ is.size_ in
      record {
        whole = record {
          key = subst (λ n. AreBytes n (xor clear.key part)) (sym long) (bytes-xor size clear.key part (subst (λ n. AreBytes n clear.key) is.size_ is.whole.key) bytes);
          vector = part_valid clear.vector is.whole.vector;
        };
        size_ = long;
      }

  record IsFurther (s now : State) (rule : List ℕ) (clear : ClearKey) (e : PartEntry) (text : List ℕ) : Type 0 where
    bytes : AreBytes size (entry_bytes e)
    left : Leaves s now e.to text (combined_key (is_last_part rule) clear (entry_bytes e))

  further_left : (s now : State) (rule key text : List ℕ) (clear : ClearKey) (e : PartEntry) → HasKey s key clear → IsSized clear → Delivers s (further_entry rule key e) now text
      → IsFurther s now rule clear e text
  further_left s now rule key text clear e has is d =
      let r : Request = further_entry rule key e in
      let p = permitted s [] r d.permitted.permitted in
      let found : key_of_request s r ≡ clear = ap (λ (k : Option Denoted). (or_no_key k).clear) has.key in
      let verb = (refused_none (first_failing (check 32 (not (length e.part / 2 == length_of (key_of_request s r).vector)) ∷ [])) (codes "part") _ p.verb).0 in
      let same = (Decides-eqb (length e.part / 2) (length_of (key_of_request s r).vector)).0 (not_false _ (check_passes 32 _ [] verb).0) in
      let sized : length e.part / 2 ≡ size = same ∙ (ap (λ (k : ClearKey). length_of k.vector) found ∙ is.size_) in
      let bytes : AreBytes size (entry_bytes e) = subst (λ n. AreBytes n (entry_bytes e)) sized (part_bytes e.part d.permitted.spelled.1.1.1.0) in
      let made : ClearKey = combined_key (is_last_part rule) clear (entry_bytes e) in
      let delivers : effect s [] r.name r ≡ delivered s (codes "token") (label_named e.to) (as_current made) =
      ap (λ (k : ClearKey). delivered s (codes "token") (label_named e.to) (as_current (combined_key (is_last_part rule) k (entry_bytes e)))) found in
      record {
        bytes = bytes;
        left = subst (λ (t : State). Leaves s t e.to text made) (sym d.after)
            (leaves s r made (combined_whole (is_last_part rule) clear (entry_bytes e) is bytes).whole d.permitted.permitted p.master delivers
            (refused_none _ _ _ (refused_none _ _ _ p.operands).1).0 text d.named);
      }

  -- MIDDLE for each of the parts
  record AreLeft (s now : State) (text : List ℕ) (clear : ClearKey) (es : List PartEntry) : Type 0 where
    has : HasKey now text clear
    sized : IsSized clear
    bytes : All (AreBytes size) (map entry_bytes es)
    others : (label : List ℕ) → All (λ (e : PartEntry). label_named e.to ≢ Some label) es → SameRecord s now label
    roles : now.roles ≡ s.roles
    registers : now.registers ≡ s.registers

  all_left : (s now : State) (key text : List ℕ) (clear : ClearKey) (es : List PartEntry) → HasKey s key clear → IsSized clear → AreDelivered s key es now text
      → AreLeft s now text (fold (combined_key false) clear (map entry_bytes es)) es
  all_left s now key text clear [] has is d =
      subst (λ (t : State). AreLeft s t text clear []) (sym d.0)
      (subst (λ x. AreLeft s s x clear []) (sym d.1)
      (record { has = has; sized = is; bytes = All-nil (AreBytes size); others = λ label spared. record { cell = refl; key = refl }; roles = refl; registers = refl }))
  all_left s now key text clear (e ∷ es) has is d =
      let t : State = d.0 in
      let one = further_left s t (codes "MIDDLE") key d.1 clear e has is d.2 in
      let rest = all_left t now d.1 text (combined_key false clear (entry_bytes e)) es one.left.has (combined_whole false clear (entry_bytes e) is one.bytes) d.3 in
      record {
        has = rest.has;
        sized = rest.sized;
        bytes = All-cons (AreBytes size) (entry_bytes e) (map entry_bytes es) one.bytes rest.bytes;
        others = λ label spared.
            let first = one.left.others label (All-head (λ (x : PartEntry). label_named x.to ≢ Some label) e es spared) in
            let second = rest.others label (All-tail (λ (x : PartEntry). label_named x.to ≢ Some label) e es spared) in
            record { cell = second.cell ∙ first.cell; key = second.key ∙ first.key };
        roles = rest.roles ∙ one.left.roles;
        registers = rest.registers ∙ one.left.registers;
      }

-- ---- all of them

-- the key that the parts make
abbrev made_of : (kind : KeyType) (s : State) → Entered kind s → ClearKey
made_of kind s b = record { key = xor_all (entry_size kind s b) (entry_parts kind s b); vector = vector_for kind (entry_size kind s b) }

record IsEntered (s : State) (kind : KeyType) (b : Entered kind s) : Type 0 where
  has : HasLength kind (entry_size kind s b)
  bytes : All (AreBytes (entry_size kind s b)) (entry_parts kind s b)
  part : ClearKey
  is_part : is_part_of part.vector ≡ true
  before : HasKey b.before_last b.part_text part
  after : HasKey b.now b.key_text (made_of kind s b)
  others : (label : List ℕ) → SparesLabel kind s b label → SameRecord s b.now label
  roles : b.now.roles ≡ s.roles
  registers : b.now.registers ≡ s.registers

front_all : (P : PartEntry → Type 0) (xs : List PartEntry) (y : PartEntry) → All P (xs ++ y ∷ []) → All P xs × P y
front_all P [] y all = (All-nil P, All-head P y [] all)
front_all P (x ∷ xs) y all =
    let rest = front_all P xs y (All-tail P x (xs ++ y ∷ []) all) in (All-cons P x xs (All-head P x (xs ++ y ∷ []) all) rest.0, rest.1)

entered : (s : State) (kind : KeyType) (b : Entered kind s) → IsEntered s kind b
entered s kind b =
    let size : ℕ = entry_size kind s b in
    let one = first_left s b.begun kind b.first b.begun_text b.begins in
    let first : ClearKey = first_key kind (entry_bytes b.first) in
    let first_sized : IsSized size first = record { whole = first_whole kind (entry_bytes b.first) one.has one.bytes; size_ = first_length kind size one.has } in
    let some = all_left size b.begun b.before_last b.begun_text b.part_text first b.middle one.left.has first_sized b.goes_on in
    let part : ClearKey = fold (combined_key false) first (map entry_bytes b.middle) in
    let last = further_left size b.before_last b.now (codes "LAST") b.part_text b.key_text part b.last some.has some.sized b.ends in
    let others : All (AreBytes size) (map entry_bytes b.middle ++ entry_bytes b.last ∷ []) = All-push (AreBytes size) (map entry_bytes b.middle) (entry_bytes b.last) some.bytes last.bytes in
    record {
      has = one.has;
      bytes = All-cons (AreBytes size) (entry_bytes b.first) (map entry_bytes b.middle ++ entry_bytes b.last ∷ []) one.bytes others;
      part = part;
      is_part = before_last kind size (entry_bytes b.first) (map entry_bytes b.middle) one.has one.bytes;
      before = some.has;
      after = subst (λ (k : ClearKey). HasKey b.now b.key_text k)
          (after_last kind size (entry_bytes b.first) (map entry_bytes b.middle) one.has one.bytes (entry_bytes b.last) others) last.left.has;
      others = λ label spared.
          let spares : PartEntry → Type 0 = λ e. label_named e.to ≢ Some label in
          let behind = front_all spares b.middle b.last (All-tail spares b.first (b.middle ++ b.last ∷ []) spared) in
          let x = one.left.others label (All-head spares b.first (b.middle ++ b.last ∷ []) spared) in
          let y = some.others label behind.0 in
          let z = last.left.others label behind.1 in
          record { cell = z.cell ∙ (y.cell ∙ x.cell); key = z.key ∙ (y.key ∙ x.key) };
      roles = last.left.roles ∙ (some.roles ∙ one.left.roles);
      registers = last.left.registers ∙ (some.registers ∙ one.left.registers);
    }

-- ---- the law

module _ (s : State) (kind : KeyType) (b : Entered kind s) where
  pub sizes : HasLength kind (entry_size kind s b) × All (AreBytes (entry_size kind s b)) (entry_parts kind s b)
  sizes = let m = entered s kind b in (m.has, m.bytes)

  pub whole_key : key_in_text b.now b.key_text ≡ Some (as_current (made_of kind s b))
  whole_key = (entered s kind b).after.key

  pub other_records : (label : List ℕ) → SparesLabel kind s b label → SameRecord s b.now label
  other_records = (entered s kind b).others

  pub rest_stays : (b.now.roles ≡ s.roles) × (b.now.registers ≡ s.registers)
  rest_stays = let m = entered s kind b in (m.roles, m.registers)

  pub still_part : (key : Denoted) × (key_in_text b.before_last b.part_text ≡ Some key) × (is_part_of key.clear.vector ≡ true)
  still_part = let m = entered s kind b in (as_current m.part, m.before.key, m.is_part)

  pub part_refused : (random : List ℕ) (r : Request) (o : Operand) → IsReached b.before_last r o → AsksWholeKey b.part_text o
      → verdict b.before_last random r ≡ Some (refusal 17 o.name)
  part_refused random r o is asks =
      let m = entered s kind b in
      operand_refused b.before_last random r o 17 is
      (ap (λ (a : Ask). first_failing (operand_checks b.before_last o.text a)) asks.asks
      ∙ (ap (λ text. first_failing (key_questions b.before_last asks.need (label_named text) text)) asks.text_
      ∙ m.before.refused asks.need asks.internal asks.whole m.is_part))
