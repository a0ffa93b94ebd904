-- What options add to the exports of a definition: an underscore to the names that the DLL is asked
-- for, and an export with a prefix beside each (the rules of GNU dlltool; docs/DLLTOOL.md).
use Rattle.std.specs.Prelude.{ℕ, Bool, false, ◌&&◌, ◌||◌, not, List, [], ◌∷◌, ◌++◌, Option, None}
use Rattle.std.specs.Prelude.{Some, if◌then◌else◌, map}
use Rattle.std.specs.List.{filter, list_any}
use Rattle.std.specs.Option.{option_map}
use Rattle.implib.specs.declared.machine.MachineType.{MachineType}
use Rattle.implib.specs.Ascii.{at_sign, begins_with, underscore}
use Rattle.implib.specs.Definition.{DefinitionView, ExportView, empty_export}
use Rattle.implib_rules.specs.declared.additions.Additions.{Additions}
use Rattle.implib_rules.specs.Linked.{NamingView, export_asked, has_target, is_at_sign}
use Rattle.implib_rules.specs.Linked.{symbol_linked, word_asked, word_of}

-- what is added
pub record AdditionsView : Type 0 where
  -- a further export of each is named with this in front
  pub prefix : Option (List ℕ)
  -- each name that is asked for gets an underscore
  pub underscore : Bool
  -- each with an `@` in it gets one
  pub stdcall_underscore : Bool

-- the view of the program's
abbrev pub additions_view : Additions → AdditionsView
additions_view a = record {
  prefix = option_map (λ text. text.now) a.prefix;
  underscore = a.underscore;
  stdcall_underscore = a.stdcall_underscore;
}

-- nothing is added
abbrev pub no_additions : AdditionsView
no_additions = record { prefix = None; underscore = false; stdcall_underscore = false }

-- whether the name asked for a word gets an underscore; one of fastcall gets none
abbrev pub gets_one : AdditionsView → List ℕ → Bool
gets_one a word = not (begins_with at_sign word)
    && (a.underscore || (a.stdcall_underscore && list_any is_at_sign word))

-- An export of a word that gets an underscore: as if it were written with the word that it asks for
-- then, which under `-k` is cut before that. What follows `==` is asked for as it is written.
abbrev pub underscored : MachineType → NamingView → AdditionsView → ExportView → ExportView
underscored machine naming a e =
    if not (has_target e) && gets_one a (word_of e)
    then record e { alias_target = underscore ∷ word_asked machine naming (word_of e) }
    else e

-- The further export of one: its name is the prefix and then the symbol of the other, and it asks
-- for the same name, or for the same ordinal. For example, of f and the prefix p it is `p_f` on
-- I386, and pf on AMD64.
abbrev pub prefixed : MachineType → NamingView → List ℕ → ExportView → ExportView
prefixed machine naming prefix e = record empty_export {
  name = prefix ++ symbol_linked machine naming e;
  alias_target = export_asked machine naming e;
  ordinal = e.ordinal;
  no_name = e.no_name;
  is_data = e.is_data;
  constant = e.constant;
}

-- the further exports of those that are not private, in their order
abbrev pub all_prefixed : MachineType → NamingView → Option (List ℕ) → List ExportView →
    List ExportView
all_prefixed machine naming None exports = []
all_prefixed machine naming (Some prefix) exports =
    map (prefixed machine naming prefix) (filter (λ e. not e.private) exports)

-- exports with what is added to them, and after them their further ones
abbrev pub extended_exports : MachineType → NamingView → AdditionsView → List ExportView →
    List ExportView
extended_exports machine naming a exports =
    map (underscored machine naming a) exports
    ++ all_prefixed machine naming a.prefix (map (underscored machine naming a) exports)

-- the definition with them
abbrev pub extended : MachineType → NamingView → AdditionsView → DefinitionView → DefinitionView
extended machine naming a d = record d { exports = extended_exports machine naming a d.exports }
