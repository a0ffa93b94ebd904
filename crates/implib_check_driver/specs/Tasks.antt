-- What options and files of a command line ask for (this project's choice; the options are those of
-- dlltool, and `--identify` after GNU dlltool's).
use Rattle.std.specs.Prelude.{◌≡◌, ℕ, ◌&&◌, ◌||◌, Bool, true, false, not, List, [], ◌∷◌, length, map}
use Rattle.std.specs.Prelude.{None, Option, Some, Err, Ok, Result, codes, find, if◌then◌else◌}
use Rattle.std.specs.Prelude.{is_none, nat_eq, bytes_eq}
use Rattle.std.specs.Char.{to_ascii_lowercase}
use Rattle.std.specs.List.{filter_map, list_any}
use Rattle.std.specs.Option.{option_map}
use Rattle.std.specs.String.{string_bytes}
use denote.Enum.Bare.{sameb}
use Rattle.implib.specs.Conversions.{flavor_named}
use Rattle.implib.specs.declared.flavor.Flavor.{Flavor}
use Rattle.implib.specs.declared.flavor.Flavor.TheVariants.{Gnu, Msvc}
use Rattle.implib.specs.declared.machine.MachineType.{MachineType}
use Rattle.implib.specs.declared.machine.MachineType.TheVariants.{ARM64}
use Rattle.implib_options.specs.Given.{GivenView, has, last}
use Rattle.implib_options.specs.contracts.table.Meaning.{the_type}
use Rattle.implib_options.specs.declared.table.Meaning.{Meaning}
use Rattle.implib_options.specs.declared.table.Meaning.TheVariants as meaning
use Rattle.implib_rules.specs.Linked.{NamingView}
use Rattle.implib_rules.specs.Machines.{machine_called}
use Rattle.implib_rules.specs.Names.{last_part}
use Rattle.implib_check_driver.specs.Calls.{CheckView, DefineView, check_view, define_view}
use Rattle.implib_check_driver.specs.declared.task.CallError.{CallError}
use Rattle.implib_check_driver.specs.declared.task.CallError.TheVariants as error
use Rattle.implib_check_driver.specs.declared.task.Command.{Command}
use Rattle.implib_check_driver.specs.declared.task.Command.TheVariants as command
use Rattle.implib_check_driver.specs.declared.task.Task.{Task}
use Rattle.implib_check_driver.specs.declared.task.Task.TheVariants as task
use Rattle.implib_check_driver.specs.declared.task.TheConstants.{OF_PROGRAM}
use Rattle.implib_check_driver.specs.declared.task.Wrong.{Wrong}
use Rattle.implib_check_driver.specs.declared.task.Wrong.TheVariants as wrong

-- what is asked for
pub data TaskView : Type 0 where
  Help : TaskView
  Version : TaskView
  -- a line for each import of a library
  Lists : List ℕ → TaskView
  -- a line for each export of a DLL
  ListsExports : List ℕ → TaskView
  -- the DLLs of a library; whether there is to be one alone
  Identifies : List ℕ → Bool → TaskView
  -- whether a library works
  WorksOf : List ℕ → TaskView
  -- whether two libraries mean the same
  Compares : List ℕ → List ℕ → TaskView
  -- what libraries of one link do to each other
  Joins : List (List ℕ) → TaskView
  -- whether a library means what a definition means
  Checks : CheckView → TaskView
  -- the definition of a library
  Defines : DefineView → TaskView
  -- whether a program finds what it imports in the DLLs of folders
  Searches : List ℕ → List (List ℕ) → TaskView

-- the view of a task of the program
abbrev pub task_view : Task → TaskView
task_view task.Help = Help
task_view task.Version = Version
task_view (task.List path) = Lists path.now
task_view (task.Exports path) = ListsExports path.now
task_view (task.Identify path is_strict) = Identifies path.now is_strict
task_view (task.Works path) = WorksOf path.now
task_view (task.Same left right) = Compares left.now right.now
task_view (task.Together paths) = Joins (map string_bytes paths.now)
task_view (task.Check check) = Checks (check_view check)
task_view (task.Define define) = Defines (define_view define)
task_view (task.Program path folders) = Searches path.now (map string_bytes folders.now)

-- what is wrong with what options and files ask for
pub data WrongView : Type 0 where
  -- two options ask for two things
  AreTwo : Meaning → Meaning → WrongView
  -- an option says nothing of what is asked for
  IsUnfit : Meaning → WrongView
  -- a file is missing
  LacksFile : WrongView
  -- there is one file, and nothing is asked of it
  IsAlone : WrongView
  -- a file is one too many
  IsFurther : List ℕ → WrongView
  -- there is no machine, or flavour, of this name
  NamesNoMachine : List ℕ → WrongView
  NamesNoFlavor : List ℕ → WrongView
  -- the name of the DLL that is given is empty
  NamesNoDll : WrongView
  -- older symbols are asked for, and Microsoft's flavour, which has none
  LacksOlder : WrongView
  -- the definition of a library for ARM64EC is asked for
  LacksDefinition : WrongView

abbrev pub wrong_view : Wrong → WrongView
wrong_view (wrong.Two one other) = AreTwo one other
wrong_view (wrong.Unfit meaning) = IsUnfit meaning
wrong_view wrong.NoFile = LacksFile
wrong_view wrong.Alone = IsAlone
wrong_view (wrong.Further file) = IsFurther file.now
wrong_view (wrong.NoMachine name) = NamesNoMachine name.now
wrong_view (wrong.NoFlavor name) = NamesNoFlavor name.now
wrong_view wrong.EmptyDll = NamesNoDll
wrong_view wrong.NoOlder = LacksOlder
wrong_view wrong.NoDefinition = LacksDefinition

-- why options and files ask for nothing: they are wrong so, or memory was refused
abbrev pub IsCallRefused : (WrongView → Type 0) → CallError → Type 0
IsCallRefused is (error.Wrong wrong) = is (wrong_view wrong)
IsCallRefused is error.OutOfMemory = Unit {0}

-- what is asked for, or what is wrong
abbrev pub Asked : Type 0 → Type 0
Asked X = Result X WrongView

abbrev pub then_for : {X Y : Type 0} → (X → Asked Y) → Asked X → Asked Y
then_for next (Ok x) = next x
then_for next (Err wrong) = Err wrong

-- what an option asks for that asks for something else than a comparison
abbrev pub command_of : Meaning → Option Command
command_of meaning.ListsImports = Some command.List
command_of meaning.ListsExports = Some command.Exports
command_of meaning.Identify = Some command.Identify
command_of meaning.IdentifyStrict = Some command.IdentifyStrict
command_of meaning.Works = Some command.Works
command_of meaning.Same = Some command.Same
command_of meaning.Together = Some command.Together
command_of meaning.Define = Some command.Define
command_of _ = None

-- the options that do, in order, each with what it asks for
abbrev pub commands : List GivenView → List (Meaning × Command)
commands given = filter_map (λ g. option_map (λ c. (g.0, c)) (command_of g.0)) given

-- the options that say more of it
abbrev pub options_of : Command → List Meaning
options_of command.Define = meaning.Machine ∷ meaning.Flavor ∷ meaning.NoLeadingUnderscore
    ∷ meaning.CompatImplib ∷ []
options_of command.Identify = []
options_of command.IdentifyStrict = []
options_of command.List = meaning.Json ∷ []
options_of command.Exports = meaning.Json ∷ []
options_of command.Works = meaning.Json ∷ []
options_of command.Same = meaning.Json ∷ []
options_of command.Together = meaning.Json ∷ []

-- whether a meaning is one of these
abbrev pub is_among : List Meaning → Meaning → Bool
is_among meanings meaning = list_any (λ one. sameb the_type one meaning) meanings

-- the first option that is none of these, and neither a command nor a file
abbrev pub is_unfit : List Meaning → Meaning → Bool
is_unfit meanings option = not (sameb the_type option meaning.Input)
    && (is_none (command_of option) && not (is_among meanings option))

abbrev pub unfit : List Meaning → List GivenView → Option Meaning
unfit meanings given = find (is_unfit meanings) (map (λ g. g.0) given)

abbrev pub if_fit : {X : Type 0} → Option Meaning → Asked X → Asked X
if_fit None asked = asked
if_fit (Some meaning) asked = Err (IsUnfit meaning)

-- the one file, the two, and all, of which there are two or more
abbrev pub one_file : List (List ℕ) → Asked (List ℕ)
one_file [] = Err LacksFile
one_file (path ∷ []) = Ok path
one_file (path ∷ further ∷ more) = Err (IsFurther further)

abbrev pub two_files : List (List ℕ) → Asked (List ℕ × List ℕ)
two_files [] = Err LacksFile
two_files (left ∷ []) = Err LacksFile
two_files (left ∷ right ∷ []) = Ok (left, right)
two_files (left ∷ right ∷ further ∷ more) = Err (IsFurther further)

abbrev pub more_files : List (List ℕ) → Asked (List (List ℕ))
more_files [] = Err LacksFile
more_files (path ∷ []) = Err LacksFile
more_files (path ∷ other ∷ paths) = Ok (path ∷ other ∷ paths)

-- the machine of a name, in letters of any case, and whether it is ARM64EC
abbrev pub machine_in_small : List ℕ → Option (MachineType × Bool)
machine_in_small name = if bytes_eq name (codes "arm64ec") then Some (ARM64, true)
    else option_map (λ machine. (machine, false)) (machine_called name)

abbrev pub machine_named : List ℕ → Option (MachineType × Bool)
machine_named name = machine_in_small (map to_ascii_lowercase name)

-- the machine that is named last, and whether it is ARM64EC
abbrev pub machine_found : List ℕ → Option (MachineType × Bool) → Asked (Option MachineType × Bool)
machine_found name None = Err (NamesNoMachine name)
machine_found name (Some machine) = Ok (Some machine.0, machine.1)

abbrev pub machine_by : Option (List ℕ) → Asked (Option MachineType × Bool)
machine_by None = Ok (None, false)
machine_by (Some name) = machine_found name (machine_named name)

abbrev pub machine_of : List GivenView → Asked (Option MachineType × Bool)
machine_of given = machine_by (last meaning.Machine given)

-- the flavour that is
abbrev pub flavor_found : List ℕ → Option Flavor → Asked (Option Flavor)
flavor_found name None = Err (NamesNoFlavor name)
flavor_found name (Some flavor) = Ok (Some flavor)

abbrev pub flavor_by : Option (List ℕ) → Asked (Option Flavor)
flavor_by None = Ok None
flavor_by (Some name) = flavor_found name (flavor_named name)

abbrev pub flavor_of : List GivenView → Asked (Option Flavor)
flavor_of given = flavor_by (last meaning.Flavor given)

-- the name of the DLL that is, which is not empty, but for a directory
abbrev pub dll_by : Option (List ℕ) → Asked (Option (List ℕ))
dll_by None = Ok None
dll_by (Some dll) =
    if nat_eq (length (last_part dll)) 0 then Err NamesNoDll else Ok (Some dll)

abbrev pub dll_of : List GivenView → Asked (Option (List ℕ))
dll_of given = dll_by (last meaning.Dll given)

-- how names are read on I386
abbrev pub naming_of : List GivenView → NamingView
naming_of given = record {
  is_plain = has meaning.NoLeadingUnderscore given;
  kills_at = has meaning.KillAt given;
  exports_as = has meaning.LibWays given || has meaning.ExportAs given;
  keeps_decorated = has meaning.LibWays given;
}

-- Whether older symbols are asked for, and the flavour that is named has none: they are GNU's
-- (`implib_dlltool`).
abbrev pub lacks_older : List GivenView → Option Flavor → Bool
lacks_older given (Some Msvc) = has meaning.CompatImplib given
lacks_older given (Some Gnu) = false
lacks_older given None = false

-- the comparison of two files
abbrev pub check_for : List GivenView → List ℕ × List ℕ → List (List ℕ) →
    Option MachineType × Bool → Option Flavor → Option (List ℕ) → Asked CheckView
check_for given files folders machine flavor dll = if lacks_older given flavor then Err LacksOlder
    else Ok (record {
      library = files.0;
      definition = files.1;
      machine = machine.0;
      arm64ec = machine.1;
      native = last meaning.NativeDefinition given;
      flavor = flavor;
      dll = dll;
      naming = naming_of given;
      older_symbols = has meaning.CompatImplib given;
      lists_unasked = has meaning.ListsUnasked given;
      folders = folders;
    })

abbrev pub check_of : List GivenView → List ℕ × List ℕ → List (List ℕ) → Asked CheckView
check_of given files folders =
    then_for (λ machine. then_for (λ flavor. then_for
    (λ dll. check_for given files folders machine flavor dll)
    (dll_of given)) (flavor_of given)) (machine_of given)

-- The definition of a file. A library has the name of its DLL and the names that it asks for itself,
-- so no option says these; and of a library for ARM64EC no definition is written.
abbrev pub define_for : List GivenView → List ℕ → Option MachineType × Bool → Option Flavor →
    Asked DefineView
define_for given path machine flavor = if lacks_older given flavor then Err LacksOlder
    else if machine.1 then Err LacksDefinition
    else Ok (record {
      library = path;
      machine = machine.0;
      flavor = flavor;
      is_plain = has meaning.NoLeadingUnderscore given;
      older_symbols = has meaning.CompatImplib given;
    })

abbrev pub define_of : List GivenView → List ℕ → Asked DefineView
define_of given path =
    then_for (λ machine. then_for (λ flavor. define_for given path machine flavor)
    (flavor_of given)) (machine_of given)

-- what a command asks for of files
abbrev pub asked_by : Command → List GivenView → List (List ℕ) → Asked TaskView
asked_by command.List given files = then_for (λ path. Ok (Lists path)) (one_file files)
asked_by command.Exports given files = then_for (λ path. Ok (ListsExports path)) (one_file files)
asked_by command.Identify given files =
    then_for (λ path. Ok (Identifies path false)) (one_file files)
asked_by command.IdentifyStrict given files =
    then_for (λ path. Ok (Identifies path true)) (one_file files)
asked_by command.Works given files = then_for (λ path. Ok (WorksOf path)) (one_file files)
asked_by command.Same given files =
    then_for (λ paths. Ok (Compares paths.0 paths.1)) (two_files files)
asked_by command.Together given files = then_for (λ paths. Ok (Joins paths)) (more_files files)
asked_by command.Define given files =
    then_for (λ path. then_for (λ define. Ok (Defines define)) (define_of given path))
    (one_file files)

abbrev pub task_of_command : Command → List GivenView → List (List ℕ) → Asked TaskView
task_of_command command given files =
    if_fit (unfit (options_of command) given) (asked_by command given files)

-- what a program finds in folders
abbrev pub task_of_program : List GivenView → List ℕ → List (List ℕ) → Asked TaskView
task_of_program given program [] = Err IsAlone
task_of_program given program (folder ∷ folders) =
    if_fit (unfit OF_PROGRAM given) (Ok (Searches program (folder ∷ folders)))

-- what is asked for without a command: a comparison of two files, or what a program finds
abbrev pub task_compared : List GivenView → List (List ℕ) → List (List ℕ) → Asked TaskView
task_compared given [] folders = Err LacksFile
task_compared given (program ∷ []) folders = task_of_program given program folders
task_compared given (library ∷ definition ∷ []) folders =
    then_for (λ check. Ok (Checks check)) (check_of given (library, definition) folders)
task_compared given (library ∷ definition ∷ further ∷ more) folders = Err (IsFurther further)

abbrev pub task_by : List (Meaning × Command) → List GivenView → List (List ℕ) →
    List (List ℕ) → Asked TaskView
task_by [] given files folders = task_compared given files folders
task_by (one ∷ []) given files folders = task_of_command one.1 given files
task_by (one ∷ other ∷ more) given files folders = Err (AreTwo one.0 other.0)

-- What is asked for by options, files and folders. Help is given whatever else is asked for.
abbrev pub task_of : List GivenView → List (List ℕ) → List (List ℕ) → Asked TaskView
task_of given files folders = if has meaning.Help given then Ok Help
    else if has meaning.Version given then Ok Version
    else task_by (commands given) given files folders
