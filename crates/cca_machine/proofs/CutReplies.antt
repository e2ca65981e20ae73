-- What segments reply is what their requests' definitions give, and each goes on from the chain that the one before replied.
use Rattle.std.proofs.Common.{◌≡◌, ℕ, ◌+◌, ◌-◌, ◌/◌, Bool, true, false, List, [], ◌∷◌, ◌++◌, length, take, drop, get_or, replicate, Option, None, Some, refl, sym, ap, ◌∙◌, subst, codes}
use Rattle.std.proofs.Math.Seq.{take-append_seam, get_or-append_seam, drop-append-add}
use Rattle.std.specs.Prelude.{is_none, option_map}
use Rattle.std.specs.Str.{bytes_eq}
use Rattle.cca_vectors.specs.Checks.{check, first_failing}
use Rattle.des_blocks.specs.Modes.{blocks, cbc, e, joined, zero_block}
use Rattle.des_blocks.proofs.ValueLemmas.{bytes-enciphered}
use Rattle.key_tokens.specs.Denotes.{ClearKey}
use Rattle.line_service.specs.Replies.{Field, Reply, Done, Hex, Text}
use Rattle.text_segments.specs.Chains.{chain_bytes, chain_checks, chain_of, first_chain}
use Rattle.text_segments.specs.Cuttings.{chain_through, text_through, uncut_text}
use Rattle.text_segments.specs.Segments.{IsCipher, chain_after, code_cipher, last_checks, last_code, last_text, last_use, segment_text, whole_part}
use Rattle.text_segments.specs.declared.chains.Chain.{Chain}
use Rattle.text_segments.specs.declared.modes.Mode.{Mode}
use Rattle.text_segments.specs.declared.modes.Mode.TheVariants.{Encipher, Decipher, Mac}
use Rattle.text_segments.proofs.BlockLemmas.{blocks-eight, cbc-eight, last_block_length}
use Rattle.text_segments.proofs.CutLaws.{cut_codes, cut_texts, e_length}
use Rattle.verb_rules.specs.LengthChecks.{text_checks}
use Rattle.verb_rules.specs.declared.lengths.MacRule.{MacRule}
use Rattle.verb_rules.specs.declared.lengths.MacRule.TheVariants.{X99, X919}
use Rattle.verb_script.specs.Grammar.{AreValues, Request, row_of}
use Rattle.verb_script.specs.Values.{hex_value}
use Rattle.cca_machine.specs.Act.{Effect, Show, code_segment_fields, effect, effected, last_code_fields, last_match_fields, last_text_fields, or_act, or_empty, performed, segment_fields, yes_or_no}
use Rattle.cca_machine.specs.Choices.{mac_length_named, mac_rule_named, pad_named}
use Rattle.cca_machine.specs.CutRequests.{Answers, AreAnswered, AreCoded, CodeSegment, CutCode, CutText, RepliedCodesAreWhole, RepliedTextsAreWhole, CutCodesAreVerified, Segment, Sender, clear_of, first_code_request, first_code_row, first_request, first_row, given_code_texts, given_texts, last_chain, last_code_chain, last_making_request, last_request, last_row, last_verifying_request, middle_code_request, middle_code_row, middle_request, middle_row, replied_texts, whole_code, whole_given, whole_replied}
use Rattle.cca_machine.specs.Keys.{any_old, warning}
use Rattle.cca_machine.specs.Operands.{operands, listed}
use Rattle.cca_machine.specs.State.{State}
use Rattle.cca_machine.specs.Verdict.{Refusal, general_checks, operands_verdict, or_refused, or_then, verb_verdict, verdict}
use Rattle.cca_machine.proofs.DrawLaws.{early_none}
use Rattle.cca_machine.proofs.HexTexts.{block_length, text_length}

-- ---- chains

-- the chain that is read of its bytes
chain_again : (c : Chain) → length c.block ≡ 8 → chain_of (chain_bytes c) ≡ c
chain_again c eight =
    let n = length c.carried in
    let filling = replicate (7 - n) 0 in
    let rest = c.carried ++ filling in
    let front : take 8 (chain_bytes c) ≡ c.block = subst (λ k. take k (chain_bytes c) ≡ c.block) eight (take-append_seam c.block (n ∷ rest)) in
    let count : get_or (chain_bytes c) 8 0 ≡ n = subst (λ k. get_or (chain_bytes c) k 0 ≡ n) eight (get_or-append_seam c.block n rest 0) in
    let back : drop 9 (chain_bytes c) ≡ rest = subst (λ k. drop (k + 1) (chain_bytes c) ≡ rest) eight (drop-append-add c.block (n ∷ rest) 1) in
    ap (λ b. chain_with b (take (get_or (chain_bytes c) 8 0) (drop 9 (chain_bytes c)))) front
    ∙ ap (λ k. chain_with c.block (take k (drop 9 (chain_bytes c)))) count
    ∙ ap (λ xs. chain_with c.block (take n xs)) back
    ∙ ap (chain_with c.block) (take-append_seam c.carried filling)
  where
    chain_with : List ℕ → List ℕ → Chain
    chain_with block carried = record { block = block; carried = carried }

pub code_cipher_length : (rule : MacRule) (clear : ClearKey) (block : List ℕ) → length (code_cipher rule clear block) ≡ 8
code_cipher_length X99 clear block = (bytes-enciphered clear.key block).size
code_cipher_length X919 clear block = (bytes-enciphered (take 8 clear.key) block).size

-- the chaining block after a segment has eight bytes
block_after : (clear : ClearKey) (mode : Mode) (chain : Chain) (text : List ℕ) → length chain.block ≡ 8 → length (chain_after clear mode chain text).block ≡ 8
block_after clear Encipher chain text eight =
    let bs = blocks (whole_part (chain.carried ++ text)) in
    last_block_length chain.block (cbc (e clear.key) chain.block bs) eight (cbc-eight (e clear.key) (e_length clear.key) chain.block bs)
block_after clear Decipher chain text eight =
    let bs = blocks (whole_part (chain.carried ++ text)) in
    last_block_length chain.block bs eight (blocks-eight (whole_part (chain.carried ++ text)))
block_after clear (Mac rule) chain text eight =
    let bs = blocks (whole_part (chain.carried ++ text)) in
    last_block_length chain.block (cbc (code_cipher rule clear) chain.block bs) eight (cbc-eight (code_cipher rule clear) (code_cipher_length rule clear) chain.block bs)

-- ---- replies

abbrev fields_of : Reply → List Field
fields_of (Done fields) = fields
fields_of _ = []

module _ (s : State) (request : Request) (fields shown : List Field) where
  -- the reply to a request that shows some fields
  replied : Answers s request fields → effect s [] request.name request ≡ Show shown
      → fields ++ warning (any_old s (listed (operands request))) ≡ shown ++ warning (any_old s (listed (operands request)))
  unfolding performed
  replied answers is =
      ap fields_of (sym answers.reply ∙ ap (λ (v : Option Refusal). (or_act v s [] request).reply) answers.permitted
      ∙ ap (λ (f : Effect). (effected s request f).reply) is)

one_hex : (n a x : List ℕ) (w : List Field) → (Hex n a ∷ w) ≡ (Hex n x ∷ w) → a ≡ x
one_hex n a x w same = cc

one_text : (n a x : List ℕ) (w : List Field) → (Text n a ∷ w) ≡ (Text n x ∷ w) → a ≡ x
one_text n a x w same = cc

two_hex : (n a x m b y : List ℕ) (w : List Field) → (Hex n a ∷ (Hex m b ∷ w)) ≡ (Hex n x ∷ (Hex m y ∷ w)) → (a ≡ x) × (b ≡ y)
two_hex n a x m b y w same = (cc, cc)

-- ---- what a permitted request has passed

none_after : (v w : Option Refusal) → or_then v w ≡ None → w ≡ None
none_after None w is = is
none_after (Some r) w is = cc is

pub none_of : (x : Option ℕ) (operand : List ℕ) (others : Option Refusal) → or_refused x operand others ≡ None → (x ≡ None) × (others ≡ None)
none_of None operand others is = (refl, is)
none_of (Some rule) operand others is = cc is

verb_permits : (s : State) (request : Request) → verdict s [] request ≡ None → verb_verdict s request ≡ None
verb_permits s request is =
    none_after (operands_verdict s request) (verb_verdict s request)
    (none_of (first_failing (general_checks s request)) (codes "-") (or_then (operands_verdict s request) (verb_verdict s request)) (early_none s [] request is)).1

passes_pad : (o : Option (List ℕ)) → first_failing (check 31 (is_none o) ∷ []) ≡ None → o ≡ Some (or_empty o)
passes_pad None is = cc is
passes_pad (Some text) is = refl

-- ---- texts that are enciphered or deciphered

module _ (s : State) (mode : Mode) (is : IsCipher mode) (sender : Sender) where
  abbrev key_is : ClearKey
  key_is = clear_of s sender

  first_effect : (iv digits : List ℕ) → effect s [] (first_row mode) (first_request mode sender iv digits)
      ≡ Show (segment_fields key_is mode (first_chain (hex_value iv)) (hex_value digits))
  first_effect iv digits = by_mode mode is
    where
      by_mode : (m : Mode) → IsCipher m → effect s [] (first_row m) (first_request m sender iv digits)
          ≡ Show (segment_fields key_is m (first_chain (hex_value iv)) (hex_value digits))
      by_mode Encipher is = refl
      by_mode Decipher is = refl
      by_mode (Mac rule) is = absurd is

  middle_effect : (given digits : List ℕ) → effect s [] (middle_row mode) (middle_request mode sender given digits)
      ≡ Show (segment_fields key_is mode (chain_of (hex_value given)) (hex_value digits))
  middle_effect given digits = by_mode mode is
    where
      by_mode : (m : Mode) → IsCipher m → effect s [] (middle_row m) (middle_request m sender given digits)
          ≡ Show (segment_fields key_is m (chain_of (hex_value given)) (hex_value digits))
      by_mode Encipher is = refl
      by_mode Decipher is = refl
      by_mode (Mac rule) is = absurd is

  last_effect : (given pad digits : List ℕ) → effect s [] (last_row mode) (last_request mode sender given pad digits)
      ≡ Show (last_text_fields key_is mode (chain_of (hex_value given)) (pad_named pad) (hex_value digits))
  last_effect given pad digits = by_mode mode is
    where
      by_mode : (m : Mode) → IsCipher m → effect s [] (last_row m) (last_request m sender given pad digits)
          ≡ Show (last_text_fields key_is m (chain_of (hex_value given)) (pad_named pad) (hex_value digits))
      by_mode Encipher is = refl
      by_mode Decipher is = refl
      by_mode (Mac rule) is = absurd is

  -- the fields of requests that a line may spell
  start_size : (iv digits : List ℕ) → AreValues (row_of (first_row mode)).fields (first_request mode sender iv digits).values → length (hex_value iv) ≡ 8
  start_size iv digits spelled = by_mode mode is spelled
    where
      by_mode : (m : Mode) → IsCipher m → AreValues (row_of (first_row m)).fields (first_request m sender iv digits).values → length (hex_value iv) ≡ 8
      by_mode Encipher is spelled = block_length iv spelled.1.1.1.0
      by_mode Decipher is spelled = block_length iv spelled.1.1.1.0
      by_mode (Mac rule) is spelled = absurd is

  last_size : (given pad digits : List ℕ) → AreValues (row_of (last_row mode)).fields (last_request mode sender given pad digits).values
      → length (hex_value digits) ≡ length digits / 2
  last_size given pad digits spelled = by_mode mode is spelled
    where
      by_mode : (m : Mode) → IsCipher m → AreValues (row_of (last_row m)).fields (last_request m sender given pad digits).values
          → length (hex_value digits) ≡ length digits / 2
      by_mode Encipher is spelled = text_length digits spelled.1.1.1.1.1.0
      by_mode Decipher is spelled = text_length digits spelled.1.1.1.1.1.0
      by_mode (Mac rule) is spelled = absurd is

  -- of a permitted last segment rules 23 and 31 aren't broken
  last_permitted : (given pad digits : List ℕ) → verb_verdict s (last_request mode sender given pad digits) ≡ None
      → (first_failing (text_checks (last_use mode (pad_named pad) (length (chain_of (hex_value given)).carried)) (length digits / 2)) ≡ None)
      × (first_failing (last_checks key_is mode (chain_of (hex_value given)) (pad_named pad) (hex_value digits)) ≡ None)
  last_permitted given pad digits permitted = by_mode mode is permitted
    where
      of_all : (a b c : Option ℕ) → or_refused a (codes "chain") (or_refused b (codes "text") (or_refused c (codes "text") None)) ≡ None → (b ≡ None) × (c ≡ None)
      of_all a b c none =
          let one = none_of a (codes "chain") (or_refused b (codes "text") (or_refused c (codes "text") None)) none in
          let two = none_of b (codes "text") (or_refused c (codes "text") None) one.1 in
          (two.0, (none_of c (codes "text") None two.1).0)

      by_mode : (m : Mode) → IsCipher m → verb_verdict s (last_request m sender given pad digits) ≡ None
          → (first_failing (text_checks (last_use m (pad_named pad) (length (chain_of (hex_value given)).carried)) (length digits / 2)) ≡ None)
          × (first_failing (last_checks key_is m (chain_of (hex_value given)) (pad_named pad) (hex_value digits)) ≡ None)
      by_mode Encipher is permitted = of_all (first_failing (chain_checks (hex_value given))) _ _ permitted
      by_mode Decipher is permitted = of_all (first_failing (chain_checks (hex_value given))) _ _ permitted
      by_mode (Mac rule) is permitted = absurd is

  -- what the segments between leave
  record Between (chain : Chain) (gs : List Segment) : Type 0 where
    chain_is : last_chain (chain_bytes chain) gs ≡ chain_bytes (chain_through key_is mode chain (given_texts gs))
    text_is : joined (replied_texts gs) ≡ text_through key_is mode chain (given_texts gs)
    eight : length (chain_through key_is mode chain (given_texts gs)).block ≡ 8

  between : (chain : Chain) (gs : List Segment) → length chain.block ≡ 8 → AreAnswered s mode sender (chain_bytes chain) gs → Between chain gs
  unfolding chain_through text_through
  between chain [] eight answered = record { chain_is = refl; text_is = refl; eight = eight }
  between chain (g ∷ gs) eight answered =
      let text = hex_value g.digits in
      let from : chain_of (hex_value g.given) ≡ chain = ap chain_of answered.0 ∙ chain_again chain eight in
      let shows = two_hex (codes "text") g.text (segment_text key_is mode (chain_of (hex_value g.given)) text)
      (codes "chain") g.chain (chain_bytes (chain_after key_is mode (chain_of (hex_value g.given)) text)) _
      (replied s (middle_request mode sender g.given g.digits) _ _ answered.1 (middle_effect g.given g.digits)) in
      let next : g.chain ≡ chain_bytes (chain_after key_is mode chain text) = shows.1 ∙ ap (λ c. chain_bytes (chain_after key_is mode c text)) from in
      let others = between (chain_after key_is mode chain text) gs (block_after key_is mode chain text eight)
      (subst (λ c. AreAnswered s mode sender c gs) next answered.2) in
      record {
        chain_is = ap (λ c. last_chain c gs) next ∙ others.chain_is;
        text_is = ap (λ t. t ++ joined (replied_texts gs)) (shows.0 ∙ ap (λ c. segment_text key_is mode c text) from)
            ∙ ap (λ ts. segment_text key_is mode chain text ++ ts) others.text_is;
        eight = others.eight;
      }

  whole_text : (iv pad : List ℕ) (cut : CutText s mode sender iv pad)
      → uncut_text key_is mode (hex_value iv) (pad_named pad) (whole_given cut.first cut.middle cut.last)
      ≡ Some (whole_replied cut.first_text cut.middle cut.last_text)
  unfolding chain_through text_through
  whole_text iv pad cut =
      let start = first_chain (hex_value iv) in
      let padding = pad_named pad in
      let text = hex_value cut.first in
      let texts = given_texts cut.middle in
      let last = hex_value cut.last in
      let eight : length (hex_value iv) ≡ 8 = start_size iv cut.first cut.begins.spelled in
      let shows = two_hex (codes "text") cut.first_text (segment_text key_is mode start text)
      (codes "chain") cut.chain (chain_bytes (chain_after key_is mode start text)) _
      (replied s (first_request mode sender iv cut.first) _ _ cut.begins (first_effect iv cut.first)) in
      let after = chain_after key_is mode start text in
      let others = between after cut.middle (block_after key_is mode start text eight)
      (subst (λ c. AreAnswered s mode sender c cut.middle) shows.1 cut.goes_on) in
      let end = chain_through key_is mode after texts in
      let from : chain_of (hex_value cut.given) ≡ end =
      ap chain_of (cut.given_is ∙ (ap (λ c. last_chain c cut.middle) shows.1 ∙ others.chain_is)) ∙ chain_again end others.eight in
      let permitted = last_permitted cut.given pad cut.last (verb_permits s (last_request mode sender cut.given pad cut.last) cut.ends.permitted) in
      let ended : cut.last_text ≡ or_empty (last_text key_is mode (chain_of (hex_value cut.given)) padding last) =
      one_hex (codes "text") cut.last_text _ _ (replied s (last_request mode sender cut.given pad cut.last) _ _ cut.ends (last_effect cut.given pad cut.last)) in
      let given : last_text key_is mode (chain_of (hex_value cut.given)) padding last ≡ Some cut.last_text =
      passes_pad (last_text key_is mode (chain_of (hex_value cut.given)) padding last) permitted.1 ∙ ap (λ t. Some t) (sym ended) in
      let some : last_text key_is mode end padding last ≡ Some cut.last_text =
      ap (λ c. last_text key_is mode c padding last) (sym from) ∙ given in
      let fits : first_failing (text_checks (last_use mode padding (length end.carried)) (length last)) ≡ None =
      ap (λ n. first_failing (text_checks (last_use mode padding (length end.carried)) n)) (last_size cut.given pad cut.last cut.ends.spelled)
      ∙ (ap (λ c. first_failing (text_checks (last_use mode padding (length c.carried)) (length cut.last / 2))) (sym from) ∙ permitted.0) in
      let law = cut_texts key_is mode (hex_value iv) padding (text ∷ texts) last is eight fits in
      let joins : List ℕ → List ℕ = λ t. (segment_text key_is mode start text ++ text_through key_is mode after texts) ++ t in
      sym law ∙ (ap (option_map joins) some
      ∙ ap (λ t. Some (t ++ cut.last_text)) (ap (λ t. t ++ text_through key_is mode after texts) (sym shows.0)
      ∙ ap (λ ts. cut.first_text ++ ts) (sym others.text_is)))

pub replied_texts_are_whole : RepliedTextsAreWhole
replied_texts_are_whole s mode sender iv pad is cut = whole_text s mode is sender iv pad cut

-- ---- codes

module _ (s : State) (verifies : Bool) (sender : Sender) (rule : List ℕ) where
  abbrev code_key : ClearKey
  code_key = clear_of s sender

  abbrev method : MacRule
  method = mac_rule_named rule

  first_code_effect : (digits : List ℕ) → effect s [] (first_code_row verifies) (first_code_request verifies sender rule digits)
      ≡ Show (code_segment_fields code_key method (first_chain zero_block) (hex_value digits))
  first_code_effect digits = by_verb verifies
    where
      by_verb : (b : Bool) → effect s [] (first_code_row b) (first_code_request b sender rule digits)
          ≡ Show (code_segment_fields code_key method (first_chain zero_block) (hex_value digits))
      by_verb true = refl
      by_verb false = refl

  middle_code_effect : (given digits : List ℕ) → effect s [] (middle_code_row verifies) (middle_code_request verifies sender rule given digits)
      ≡ Show (code_segment_fields code_key method (chain_of (hex_value given)) (hex_value digits))
  middle_code_effect given digits = by_verb verifies
    where
      by_verb : (b : Bool) → effect s [] (middle_code_row b) (middle_code_request b sender rule given digits)
          ≡ Show (code_segment_fields code_key method (chain_of (hex_value given)) (hex_value digits))
      by_verb true = refl
      by_verb false = refl

  record CodesBetween (chain : Chain) (gs : List CodeSegment) : Type 0 where
    chain_is : last_code_chain (chain_bytes chain) gs ≡ chain_bytes (chain_through code_key (Mac method) chain (given_code_texts gs))
    eight : length (chain_through code_key (Mac method) chain (given_code_texts gs)).block ≡ 8

  codes_between : (chain : Chain) (gs : List CodeSegment) → length chain.block ≡ 8 → AreCoded s verifies sender rule (chain_bytes chain) gs → CodesBetween chain gs
  unfolding chain_through
  codes_between chain [] eight answered = record { chain_is = refl; eight = eight }
  codes_between chain (g ∷ gs) eight answered =
      let text = hex_value g.digits in
      let from : chain_of (hex_value g.given) ≡ chain = ap chain_of answered.0 ∙ chain_again chain eight in
      let shows = one_hex (codes "chain") g.chain (chain_bytes (chain_after code_key (Mac method) (chain_of (hex_value g.given)) text)) _
      (replied s (middle_code_request verifies sender rule g.given g.digits) _ _ answered.1 (middle_code_effect g.given g.digits)) in
      let next : g.chain ≡ chain_bytes (chain_after code_key (Mac method) chain text) = shows ∙ ap (λ c. chain_bytes (chain_after code_key (Mac method) c text)) from in
      let others = codes_between (chain_after code_key (Mac method) chain text) gs (block_after code_key (Mac method) chain text eight)
      (subst (λ c. AreCoded s verifies sender rule c gs) next answered.2) in
      record { chain_is = ap (λ c. last_code_chain c gs) next ∙ others.chain_is; eight = others.eight }

  -- the code that the last segment finishes
  finished_code : (cut : CutCode s verifies sender rule) (last : List ℕ)
      → last_code code_key method (chain_of (hex_value cut.given)) (hex_value last) ≡ whole_code s sender rule cut.first cut.middle last
  unfolding chain_through
  finished_code cut last =
      let start = first_chain zero_block in
      let text = hex_value cut.first in
      let texts = given_code_texts cut.middle in
      let after = chain_after code_key (Mac method) start text in
      let shows = one_hex (codes "chain") cut.chain (chain_bytes after) _
      (replied s (first_code_request verifies sender rule cut.first) _ _ cut.begins (first_code_effect cut.first)) in
      let others = codes_between after cut.middle (block_after code_key (Mac method) start text refl)
      (subst (λ c. AreCoded s verifies sender rule c cut.middle) shows cut.goes_on) in
      let end = chain_through code_key (Mac method) after texts in
      let from : chain_of (hex_value cut.given) ≡ end =
      ap chain_of (cut.given_is ∙ (ap (λ c. last_code_chain c cut.middle) shows ∙ others.chain_is)) ∙ chain_again end others.eight in
      ap (λ c. last_code code_key method c (hex_value last)) from ∙ cut_codes code_key method (text ∷ texts) (hex_value last)

pub replied_codes_are_whole : RepliedCodesAreWhole
replied_codes_are_whole s sender rule size last mac cut ends =
    let code = last_code (clear_of s sender) (mac_rule_named rule) (chain_of (hex_value cut.given)) (hex_value last) in
    one_hex (codes "mac") mac (take (mac_length_named size) code) _
    (replied s (last_making_request sender rule size cut.given last) _
    (last_code_fields (clear_of s sender) (mac_rule_named rule) (chain_of (hex_value cut.given)) (mac_length_named size) (hex_value last)) ends refl)
    ∙ ap (take (mac_length_named size)) (finished_code s false sender rule cut last)

pub cut_codes_are_verified : CutCodesAreVerified
cut_codes_are_verified s sender rule mac last shown cut ends =
    let code = last_code (clear_of s sender) (mac_rule_named rule) (chain_of (hex_value cut.given)) (hex_value last) in
    let said : List ℕ → List ℕ = λ c. yes_or_no (bytes_eq (hex_value mac) (take (length (hex_value mac)) c)) in
    one_text (codes "match") shown (said code) _
    (replied s (last_verifying_request sender rule mac cut.given last) _
    (last_match_fields (clear_of s sender) (mac_rule_named rule) (chain_of (hex_value cut.given)) (hex_value mac) (hex_value last)) ends refl)
    ∙ ap said (finished_code s true sender rule cut last)
