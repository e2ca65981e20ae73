-- Sets of key classes.
use Rattle.std.specs.Prelude.{Bool, true, false, List}
use Rattle.std.specs.List.{list_any}
use Rattle.cca_vectors.specs.declared.key_class.Class.{Class}
use Rattle.cca_vectors.specs.declared.key_class.Class.TheVariants as class
use Rattle.verb_rules.specs.declared.classes.Classes.{Classes}

-- the class is in the set
abbrev pub has : Classes → Class → Bool
has classes class.Data = classes.data_keys
has classes class.Cipher = classes.cipher_keys
has classes class.Mac = classes.mac_keys
has classes class.Exporter = classes.exporters
has classes class.Importer = classes.importers
has classes class.Other = classes.others

-- two classes are the same
abbrev pub is_same : Class → Class → Bool
is_same class.Data class.Data = true
is_same class.Cipher class.Cipher = true
is_same class.Mac class.Mac = true
is_same class.Exporter class.Exporter = true
is_same class.Importer class.Importer = true
is_same class.Other class.Other = true
is_same _ _ = false

-- a list has the class
abbrev pub is_listed : List Class → Class → Bool
is_listed list class = list_any (is_same class) list

-- the set of the classes of a list
abbrev pub classes_of : List Class → Classes
classes_of list = record {
  data_keys = is_listed list class.Data;
  cipher_keys = is_listed list class.Cipher;
  mac_keys = is_listed list class.Mac;
  exporters = is_listed list class.Exporter;
  importers = is_listed list class.Importer;
  others = is_listed list class.Other;
}
