-- The points that requests need, and the transport keys that they take, are those of the tables.
use Rattle.std.proofs.Common.{◌≡◌, ℕ, Bool, true, false, List, [], Option, None, Some, refl}
use Rattle.std.specs.Prelude.{bit_or, codes, if◌then◌else◌}
use Rattle.std.specs.Str.{bytes_eq}
use Rattle.cca_roles.specs.Points.{ArePoints}
use Rattle.cca_vectors.specs.declared.key_class.Class.{Class}
use Rattle.cca_vectors.specs.declared.key_class.Class.TheVariants.{Exporter, Importer}
use Rattle.cca_vectors.specs.declared.key_usage.Usage.{Usage}
use Rattle.cca_vectors.specs.declared.key_usage.Usage.TheVariants.{PairOperational, PairImportExport, PairSame}
use Rattle.key_transport.specs.declared.changing.Target.{Target}
use Rattle.key_transport.specs.declared.changing.Target.TheVariants.{Current, New}
use Rattle.key_transport.specs.declared.generating.Form.TheVariants.{Opex, Opim, Imex, Exex, Imim}
use Rattle.verb_rules.specs.declared.needs.Need.{Need}
use Rattle.verb_script.specs.Grammar.{Request, value_of}
use Rattle.verb_script.specs.declared.rows.RequestName.{RequestName}
use Rattle.verb_script.specs.declared.rows.RequestName.TheVariants.{Csnbktp, Csnbcki, CsnbkgnOp, CsnbkgnPair, Csnbkim, Csnbpex, Csnbktc, CsnbkpiFirst, CsnbkpiMiddle, CsnbmkpPart}
use Rattle.verb_script.specs.Named.{label_named}
use Rattle.cca_machine.specs.Actions.{part_action}
use Rattle.cca_machine.specs.Choices.{out_form_named, pair_form_named, target_named}
use Rattle.master_registers.specs.declared.actions.Action.{Action}
use Rattle.master_registers.specs.declared.actions.Action.TheVariants.{First, Middle, Last, Clear, Set}
use Rattle.cca_machine.specs.Operands.{first_transport, second_transport, transport_key}
use Rattle.cca_machine.specs.Points.{point}
use Rattle.cca_machine.specs.Verdict.{action_points, change_points, needed_points, points_for}

-- a point and, where a label is named, that of CSNBKRW
with_target : (needed : ℕ) (to : Option (List ℕ)) → ArePoints (bit_or needed (points_for None)) → ArePoints (bit_or needed (points_for (Some [])))
    → ArePoints (bit_or needed (points_for to))
with_target needed None alone both = alone
with_target needed (Some label) alone both = both

of_target : (target : Target) → ArePoints (change_points target)
of_target Current = refl
of_target New = refl

of_action : (action : Action) → ArePoints (action_points action)
of_action First = refl
of_action Middle = refl
of_action Last = refl
of_action Clear = refl
of_action Set = refl

pub of_table : (name : RequestName) (r : Request) → ArePoints (needed_points name r)
of_table Csnbktp r = refl
of_table Csnbcki r = with_target (point (codes "CKI")) (label_named (value_of r (codes "to"))) refl refl
of_table CsnbkgnOp r = with_target (point (codes "KGN_OP")) (label_named (value_of r (codes "to"))) refl refl
of_table CsnbkgnPair r = with_target (point (codes "KGN_PAIR")) (label_named (value_of r (codes "to"))) refl refl
of_table Csnbkim r = with_target (point (codes "KIM")) (label_named (value_of r (codes "to"))) refl refl
of_table Csnbpex r = with_target (point (codes "PEX")) (label_named (value_of r (codes "to"))) refl refl
of_table Csnbktc r = of_target (target_named (value_of r (codes "rule")))
of_table CsnbkpiFirst r = with_target (point (codes "KPI_FIRST")) (label_named (value_of r (codes "to"))) refl refl
of_table CsnbkpiMiddle r = with_target (point (codes "KPI_COMBINE")) (label_named (value_of r (codes "to"))) refl refl
of_table CsnbmkpPart r = of_action (part_action (value_of r (codes "action")))
of_table _ r = refl

-- ---- transport keys

-- the need is that of a transport key
abbrev pub TakesTransport : Need → Type 0
TakesTransport need = (class : Class) × (use_of : Usage) × (need ≡ transport_key class use_of)

out_first : (imex exex : Bool) → TakesTransport (first_transport (if imex then Imex else if exex then Exex else Imim))
out_first true exex = (Importer, PairImportExport, refl)
out_first false true = (Exporter, PairSame, refl)
out_first false false = (Importer, PairSame, refl)

out_second : (imex exex : Bool) → TakesTransport (second_transport (if imex then Imex else if exex then Exex else Imim))
out_second true exex = (Exporter, PairImportExport, refl)
out_second false true = (Exporter, PairSame, refl)
out_second false false = (Importer, PairSame, refl)

pair_second : (opex : Bool) → TakesTransport (second_transport (if opex then Opex else Opim))
pair_second true = (Exporter, PairOperational, refl)
pair_second false = (Importer, PairOperational, refl)

pub first_taken : (text : List ℕ) → TakesTransport (first_transport (out_form_named text))
first_taken text = out_first (bytes_eq text (codes "IMEX")) (bytes_eq text (codes "EXEX"))

pub second_taken : (text : List ℕ) → TakesTransport (second_transport (out_form_named text))
second_taken text = out_second (bytes_eq text (codes "IMEX")) (bytes_eq text (codes "EXEX"))

pub pair_taken : (text : List ℕ) → TakesTransport (second_transport (pair_form_named text))
pair_taken text = pair_second (bytes_eq text (codes "OPEX"))
