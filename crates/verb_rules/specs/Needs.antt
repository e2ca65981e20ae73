-- What is needed of keys in more than one place.
use Rattle.std.specs.Prelude.{true, false, List, [], ◌∷◌, None, Some}
use Rattle.cca_vectors.specs.declared.key_class.Class.{Class}
use Rattle.cca_vectors.specs.declared.key_class.Class.TheVariants.{Data, Cipher, Mac, Exporter, Importer, Other}
use Rattle.cca_vectors.specs.declared.key_usage.Usage.{Usage}
use Rattle.key_tokens.specs.declared.key_token.Asked.TheVariants.{Internal}
use Rattle.verb_rules.specs.Classes.{classes_of}
use Rattle.verb_rules.specs.declared.needs.Need.{Need}

abbrev pub every_class : List Class
every_class = Data ∷ Cipher ∷ Mac ∷ Exporter ∷ Importer ∷ Other ∷ []

-- any internal key, also one that is a part
abbrev pub any_key : Need
any_key = record {
  asked = Internal;
  classes = classes_of every_class;
  usage = None;
  export = false;
  double = false;
  parts = true;
}

-- an internal key of any class that may be exported
abbrev pub exported_key : Need
exported_key = record {
  asked = Internal;
  classes = classes_of every_class;
  usage = None;
  export = true;
  double = false;
  parts = false;
}

-- a transport key of double length: of this class, and permitted for this use
abbrev pub transport_key : Class → Usage → Need
transport_key class use_of = record {
  asked = Internal;
  classes = classes_of (class ∷ []);
  usage = Some use_of;
  export = false;
  double = true;
  parts = false;
}
