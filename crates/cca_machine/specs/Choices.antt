-- What the words of fields choose.
use Rattle.std.specs.Prelude.{ℕ, Bool, List, codes, Option, None, Some, if◌then◌else◌}
use Rattle.std.specs.Str.{bytes_eq}
use Rattle.cipher_verbs.specs.declared.padding.Pad.{Pad}
use Rattle.cipher_verbs.specs.declared.padding.Pad.TheVariants as padding
use Rattle.cipher_verbs.specs.declared.random.RandomForm.{RandomForm}
use Rattle.cipher_verbs.specs.declared.random.RandomForm.TheVariants.{Random, Odd, Even}
use Rattle.cca_vectors.specs.KeyTypes.{type_named}
use Rattle.cca_vectors.specs.declared.key_length.Length.{Length}
use Rattle.cca_vectors.specs.declared.key_length.Length.TheVariants.{Eight, Sixteen, Unique}
use Rattle.cca_vectors.specs.declared.key_type.KeyType.{KeyType}
use Rattle.cca_vectors.specs.declared.key_type.KeyType.TheVariants as kind
use Rattle.key_transport.specs.declared.changing.Target.{Target}
use Rattle.key_transport.specs.declared.changing.Target.TheVariants.{Current, New}
use Rattle.key_transport.specs.declared.generating.Form.{Form}
use Rattle.key_transport.specs.declared.generating.Form.TheVariants.{Opex, Opim, Imex, Exex, Imim}
use Rattle.verb_rules.specs.declared.lengths.MacRule.{MacRule}
use Rattle.verb_rules.specs.declared.lengths.MacRule.TheVariants.{X99, X919}

-- NONE or X9.23
abbrev pub pad_named : List ℕ → Pad
pad_named text = if bytes_eq text (codes "NONE") then padding.None else padding.X923

-- X9.9-1 or X9.19OPT
abbrev pub mac_rule_named : List ℕ → MacRule
mac_rule_named text = if bytes_eq text (codes "X9.9-1") then X99 else X919

-- 4, 6 or 8
abbrev pub mac_length_named : List ℕ → ℕ
mac_length_named text =
    if bytes_eq text (codes "4") then 4 else if bytes_eq text (codes "6") then 6 else 8

-- RANDOM, ODD or EVEN
abbrev pub form_named : List ℕ → RandomForm
form_named text =
    if bytes_eq text (codes "RANDOM") then Random
    else if bytes_eq text (codes "ODD") then Odd
    else Even

-- 8, 16 or DOUBLE-O
abbrev pub key_length_named : List ℕ → Length
key_length_named text =
    if bytes_eq text (codes "8") then Eight
    else if bytes_eq text (codes "16") then Sixteen
    else Unique

-- OPEX or OPIM
abbrev pub pair_form_named : List ℕ → Form
pair_form_named text = if bytes_eq text (codes "OPEX") then Opex else Opim

-- IMEX, EXEX or IMIM
abbrev pub out_form_named : List ℕ → Form
out_form_named text =
    if bytes_eq text (codes "IMEX") then Imex
    else if bytes_eq text (codes "EXEX") then Exex
    else Imim

abbrev pub or_data : Option KeyType → KeyType
or_data None = kind.Data
or_data (Some type) = type

-- the key type of a field, which the grammar lets name one
abbrev pub type_in : List ℕ → KeyType
type_in text = or_data (type_named text)

-- RTCMK or RTNMK
abbrev pub target_named : List ℕ → Target
target_named text = if bytes_eq text (codes "RTCMK") then Current else New

-- MIDDLE or LAST
abbrev pub is_last_part : List ℕ → Bool
is_last_part text = bytes_eq text (codes "LAST")
