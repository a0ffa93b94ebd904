-- What a run of the program does (this project's own).
use Rattle.std.specs.Prelude.{◌≡◌, ◌≢◌, ◌⊎◌, ℕ, Bool, true, false, List, [], ◌∷◌, ◌++◌, Option}
use Rattle.std.specs.Prelude.{None, Some, Result, Ok, Err, IfSome, codes, drop, is_some, length}
use Rattle.std.specs.Prelude.{if◌then◌else◌}
use Rattle.std.specs.Io.KnownBytes.{Appends}
use Rattle.std.specs.Str.{bytes_eq}
use Rattle.std.specs.declared.io.ErrorKind.{ErrorKind}
use Rattle.std.specs.declared.io.ErrorKind.TheVariants.{InvalidData}
use Rattle.implib.specs.declared.flavor.Flavor.{Flavor}
use Rattle.implib.specs.declared.flavor.Flavor.TheVariants.{Gnu, Msvc}
use Rattle.implib.specs.declared.machine.MachineType.{MachineType}
use Rattle.implib.specs.Import.{is_empty_text}
use Rattle.implib.specs.Members.MemberSpec.{MemberView}
use Rattle.implib_driver.specs.Disk.{DiskView}
use Rattle.implib_driver.specs.declared.identity.NotIdentified.{NotIdentified}
use Rattle.implib_driver.specs.declared.identity.Wanted.{Wanted}
use Rattle.implib_driver.specs.Identity.{identified}
use Rattle.implib_libraries.specs.declared.delayed.DelayRefusal.{DelayRefusal}
use Rattle.implib_libraries.specs.declared.delayed.DelayRefusal.TheVariants.{Refused}
use Rattle.implib_libraries.specs.declared.delayed.DelayRefusal.TheVariants.{Undelayed as CannotDelay}
use Rattle.implib_libraries.specs.Delayed.{IsDelayedLibrary, IsRefusalOfDelayed, LeavesOut}
use Rattle.implib_driver.specs.Placing.{Answer, Answers, IsPlaced, IsUnplaced}
use Rattle.implib_driver.specs.Reports.{ComplaintView, Complains, Line, OfArgument, OfCall}
use Rattle.implib_driver.specs.Reports.{OfIdentity, OfLeftOut, OfMemory, OfStub, OfSystem}
use Rattle.implib_driver.specs.Reports.{OfUndelayed, OfWord}
use Rattle.implib_driver.specs.Reports.{OfWriting, Refuses, Says}
use Rattle.implib_driver.specs.declared.help.TheConstants.{END, FRONT, MIDDLE, VERSION}
use Rattle.implib_driver.specs.LibWords.{AreRead}
use Rattle.implib_driver.specs.Apart.{AreApart, IsMisplaced}
pub use Rattle.implib_driver.specs.Disk.{KeepsFiles, definition_in}
pub use Rattle.implib_driver.specs.Verdicts.{answer_status, output_or_none, verdict}
pub use Rattle.implib_driver.specs.Warned.{IsInUtf16, IsUnwarned, Warned, begins_utf16, is_bare}
pub use Rattle.implib_driver.specs.Warned.{warning_lines}
use Rattle.implib_driver.specs.Arm64ecProgram.{FinishesArm64ec}
use Rattle.implib_driver.specs.Dll.{begins_dll}
use Rattle.implib_driver.specs.DllProgram.{FinishesDll}
use Rattle.implib_driver.specs.Request.{Asked, AsksHelp, AsksIdentity, AsksVersion, Asks}
use Rattle.implib_driver.specs.Request.{CallFaultView, DecoratesDefinition, RequestView}
use Rattle.implib_driver.specs.Request.{SearchesForDefinition, TaskView, caller_of, request_for}
use Rattle.implib_driver.specs.Request.{task_of}
use Rattle.implib_driver.specs.Stubs.{has_failing_stub}
use Rattle.implib_options.specs.declared.table.Words.TheVariants.{Dlltool, Lib}
use Rattle.implib_options.specs.Given.{GivenView, has_values}
use Rattle.implib_options.specs.Table.{help_lines}
use Rattle.implib_options.specs.Words.{Reading}
use Rattle.implib_rules.specs.declared.library.Refusal.{Refusal}
use Rattle.implib_rules.specs.Library.{CountsMembers, is_out_of_memory, status_of}
use Rattle.implib_rules.specs.Names.{last_part}
use Rattle.implib_rules.specs.Older.{IsRefusalOfAsked, MembersAsked}

-- what is known of all that a run uses but standard output: the bytes that standard input has left,
-- the disk, and what was said
pub record Devices : Type 0 where
  pub input : Option (List ℕ)
  pub disk : DiskView
  pub said : Option (List Line)

abbrev pub devices : Option (List ℕ) → DiskView → Option (List Line) → Devices
devices input disk said = record { input = input; disk = disk; said = said }

-- how many of its members the warnings of a library are of: all, and for GNU's linker none
abbrev pub members_counted : Flavor → ℕ → ℕ
members_counted Msvc count = count
members_counted Gnu count = 0

-- a library was made, which is bare or not by the number of its members
pub record CountsMade (bytes : List ℕ) (request : RequestView) (bare : Bool) : Type 0 where
  pub members : List MemberView
  pub members_asked : MembersAsked request.older_symbols bytes request.library members
  pub is : bare ≡ is_bare (length members)

-- there is none
pub record CountsNone (bytes : List ℕ) (request : RequestView) (bare : Bool) : Type 0 where
  pub refusal : Refusal
  pub refused : IsRefusalOfAsked request.older_symbols bytes request.library refusal
  pub has_memory : is_out_of_memory refusal ≡ false
  pub is : bare ≡ false

-- whether the library of a definition is bare; where there is none, it is not
abbrev pub CountsBare : List ℕ → RequestView → Bool → Type 0
CountsBare bytes request bare = CountsMade bytes request bare ⊎ CountsNone bytes request bare

-- the warnings that are asked for were said, the library was put, and then the answer was said
pub record IsAnswered (known : Bool) (bytes : List ℕ) (request : RequestView) (disk put : DiskView)
    (before after : Option (List Line)) (status : ℕ) : Type 0 where
  pub no_utf16 : begins_utf16 bytes ≡ false
  pub bare : Bool
  pub counts : CountsBare bytes request bare
  pub count : ℕ
  pub counted : CountsMembers bytes request.library request.library.flavor count
  pub warned : Option (List Line)
  pub warns : Warned request.is_verbose bare count bytes request before warned
  pub answer : Answer
  pub answers : Answers known disk put bytes request answer
  pub says : Says warned after (verdict request answer)
  pub is_status : status ≡ answer_status answer

-- the warnings that are asked for were said, and then that the library would have stubs that cannot
-- run; nothing was put
pub record HasFailingStub (bytes : List ℕ) (request : RequestView) (disk put : DiskView)
    (before after : Option (List Line)) (status : ℕ) : Type 0 where
  pub count : ℕ
  pub counted : CountsMembers bytes request.library request.library.flavor count
  pub warned : Option (List Line)
  pub warns : Warned request.is_verbose false count bytes request before warned
  pub members : List MemberView
  pub members_asked : MembersAsked request.older_symbols bytes request.library members
  pub fails : has_failing_stub request.library members ≡ true
  pub same_disk : put ≡ disk
  pub says : Says warned after (Complains request.definition OfStub ∷ [])
  pub is_status : status ≡ 1

-- what is done with the bytes of a definition
abbrev pub Finishes : Bool → List ℕ → RequestView → DiskView → DiskView → Option (List Line) →
    Option (List Line) → ℕ → Type 0
Finishes known bytes request disk put before after status =
    IsAnswered known bytes request disk put before after status
    ⊎ IsUnwarned request disk put before after status
    ⊎ HasFailingStub bytes request disk put before after status
    ⊎ IsInUtf16 bytes request disk put before after status

-- what is done with the bytes of a definition that has these members, whose stubs can run
abbrev pub FinishesWith : Bool → List ℕ → List MemberView → RequestView → DiskView → DiskView →
    Option (List Line) → Option (List Line) → ℕ → Type 0
FinishesWith known bytes members request disk put before after status =
    begins_utf16 bytes ≡ false → MembersAsked request.older_symbols bytes request.library members
    → has_failing_stub request.library members ≡ false →
    Finishes known bytes request disk put before after status

-- what is done with the bytes of a definition that has these members, whose stubs cannot: nothing
-- with any disk
abbrev pub FinishesFailing : List ℕ → List MemberView → RequestView → Option (List Line) →
    Option (List Line) → ℕ → Type 0
FinishesFailing bytes members request before after status =
    MembersAsked request.older_symbols bytes request.library members →
    has_failing_stub request.library members ≡ true →
    (known : Bool) (disk : DiskView) → Finishes known bytes request disk disk before after status

-- what is done with the bytes of a definition that has no members for this: nothing with any disk
abbrev pub FinishesWithout : List ℕ → Refusal → RequestView → Option (List Line) →
    Option (List Line) → ℕ → Type 0
FinishesWithout bytes refusal request before after status =
    begins_utf16 bytes ≡ false →
    IsRefusalOfAsked request.older_symbols bytes request.library refusal →
    (known : Bool) (disk : DiskView) → Finishes known bytes request disk disk before after status

-- what is said of a definition that has no library of delayed imports, and the exit status then: 3
-- for want of memory, and else 1
abbrev pub delay_lines : List ℕ → DelayRefusal → List Line
delay_lines path (Refused refusal) = Refuses path refusal ∷ []
delay_lines path (CannotDelay why) = Complains path (OfUndelayed why) ∷ []

abbrev pub delay_status : DelayRefusal → ℕ
delay_status (Refused refusal) = status_of refusal
delay_status (CannotDelay why) = 1

-- The other library was put with status 0, if one is asked for, and then that of delayed imports,
-- in another place (Apart), so that the first stays.
pub record IsDelayed (known : Bool) (bytes path file : List ℕ) (request : RequestView)
    (disk put : DiskView) (before after : Option (List Line)) (status : ℕ) : Type 0 where
  pub middle : DiskView
  pub finishes : Finishes known bytes request disk middle before after 0
  pub placed : IsPlaced known middle put path file
  pub is_status : status ≡ 0

-- the other library was put, if one is asked for, and then that of delayed imports was not, which
-- was said
pub record FailsToDelay (known : Bool) (bytes path : List ℕ) (request : RequestView)
    (disk put : DiskView) (before after : Option (List Line)) (status : ℕ) : Type 0 where
  pub middle : DiskView
  pub said : Option (List Line)
  pub finishes : Finishes known bytes request disk middle before said 0
  pub unplaced : IsUnplaced middle put
  pub says : Says said after (Complains path OfWriting ∷ [])
  pub is_status : status ≡ 3

-- the other library was not put, or cannot be made, and nothing else was done
pub record StopsBefore (known : Bool) (bytes : List ℕ) (request : RequestView) (disk put : DiskView)
    (before after : Option (List Line)) (status : ℕ) : Type 0 where
  pub finishes : Finishes known bytes request disk put before after status
  pub fails : status ≢ 0

-- what is done with the bytes of a definition whose library of delayed imports is this, for this
-- path
abbrev pub FinishesDelayed : Bool → List ℕ → List ℕ → List ℕ → RequestView → DiskView → DiskView →
    Option (List Line) → Option (List Line) → ℕ → Type 0
FinishesDelayed known bytes path file request disk put before after status =
    IsDelayed known bytes path file request disk put before after status
    ⊎ FailsToDelay known bytes path request disk put before after status
    ⊎ StopsBefore known bytes request disk put before after status

-- how many exports a library of delayed imports leaves out, and the first, was said, if it does any
abbrev pub SaysLeftOut : List (List ℕ) → List ℕ → Option (List Line) → Option (List Line) → Type 0
SaysLeftOut [] path before after = after ≡ before
SaysLeftOut (first ∷ rest) path before after =
    Says before after (Complains path (OfLeftOut (length (first ∷ rest)) first) ∷ [])

-- the definition has a library of delayed imports, and this was done with it
pub record HasDelayed (known : Bool) (bytes path : List ℕ) (request : RequestView)
    (disk put : DiskView) (before after : Option (List Line)) (status : ℕ) : Type 0 where
  pub file : List ℕ
  pub is_library : IsDelayedLibrary bytes request.library file
  -- what it leaves out was said first
  pub left : List (List ℕ)
  pub leaves : LeavesOut bytes request.library left
  pub warned : Option (List Line)
  pub says : SaysLeftOut left request.definition before warned
  pub finishes : FinishesDelayed known bytes path file request disk put warned after status

-- the definition has none, which was said, and nothing was put
pub record HasNoDelayed (bytes : List ℕ) (request : RequestView) (disk put : DiskView)
    (before after : Option (List Line)) (status : ℕ) : Type 0 where
  pub refusal : DelayRefusal
  pub refused : IsRefusalOfDelayed bytes request.library refusal
  pub same_disk : put ≡ disk
  pub says : Says before after (delay_lines request.definition refusal)
  pub is_status : status ≡ delay_status refusal

-- what is done with the bytes of a definition where a library of delayed imports is asked for, for
-- this path
abbrev pub FinishesDelaying : Bool → List ℕ → List ℕ → RequestView → DiskView → DiskView →
    Option (List Line) → Option (List Line) → ℕ → Type 0
FinishesDelaying known bytes path request disk put before after status =
    HasDelayed known bytes path request disk put before after status
    ⊎ HasNoDelayed bytes request disk put before after status
    ⊎ IsInUtf16 bytes request disk put before after status

-- what is done with the bytes of a definition, where delayed imports are for this path, if one is
-- given
abbrev pub FinishesText : Bool → List ℕ → Option (List ℕ) → RequestView → DiskView → DiskView →
    Option (List Line) → Option (List Line) → ℕ → Type 0
FinishesText known bytes None request disk put before after status =
    Finishes known bytes request disk put before after status
FinishesText known bytes (Some path) request disk put before after status =
    FinishesDelaying known bytes path request disk put before after status

-- what is done with the bytes of a definition, where a library for ARM64EC is asked for, and where
-- none is; the bytes that standard input has left are these
abbrev pub FinishesFor : Bool → Option (List ℕ) → List ℕ → Option (Option (List ℕ)) → RequestView →
    DiskView → DiskView → Option (List Line) → Option (List Line) → ℕ → Type 0
FinishesFor known input bytes None request disk put before after status =
    FinishesText known bytes request.delayed request disk put before after status
FinishesFor known input bytes (Some native) request disk put before after status =
    FinishesArm64ec known input bytes native request disk put before after status

-- what is wrong with a request for a definition: that has its symbols, and says which exports are
-- data
abbrev pub misuse : RequestView → Option CallFaultView
misuse request =
    if is_some request.decorations then Some DecoratesDefinition
    else if has_values request.search then Some SearchesForDefinition
    else None

-- that was said, and nothing was put
pub record IsMisused (fault : CallFaultView) (request : RequestView) (disk put : DiskView)
    (before after : Option (List Line)) (status : ℕ) : Type 0 where
  pub same_disk : put ≡ disk
  pub says : Says before after (Complains request.definition (OfCall fault) ∷ [])
  pub is_status : status ≡ 2

-- what is done with the bytes of a definition, unless a request for one is wrong
abbrev pub FinishesUnless : Option CallFaultView → Bool → Option (List ℕ) → List ℕ → RequestView →
    DiskView → DiskView → Option (List Line) → Option (List Line) → ℕ → Type 0
FinishesUnless None known input bytes request disk put before after status =
    FinishesFor known input bytes request.arm64ec request disk put before after status
FinishesUnless (Some fault) known input bytes request disk put before after status =
    IsMisused fault request disk put before after status

-- the request that options make for a machine, as the one that a DLL is for
abbrev pub ForMachine : Type 0
ForMachine = MachineType → Asked RequestView

-- what is done with bytes: those of a DLL where they begin so, and else of a definition; the bytes
-- that standard input has left are these
abbrev pub FinishesRead : Bool → ForMachine → Bool → Option (List ℕ) → List ℕ → RequestView →
    DiskView → DiskView → Option (List Line) → Option (List Line) → ℕ → Type 0
FinishesRead known machines true input bytes request disk put before after status =
    FinishesDll known machines bytes request.definition disk put before after status
FinishesRead known machines false input bytes request disk put before after status =
    FinishesUnless (misuse request) known input bytes request disk put before after status

-- the definition or the DLL was read, and this was done with its bytes
pub record IsRead (known : Bool) (machines : ForMachine) (request : RequestView)
    (before after : Devices) (status : ℕ) : Type 0 where
  pub bytes : List ℕ
  pub read : IfSome (definition_in before.input before.disk request.definition)
      (λ file. bytes ≡ file)
  -- what standard input has left then: all, if the definition is a file
  pub left : Option (List ℕ)
  pub untouched : bytes_eq request.definition (codes "-") ≡ false → left ≡ before.input
  pub finishes : FinishesRead known machines (begins_dll bytes) left bytes request before.disk
      after.disk before.said after.said status

-- the definition or the DLL could not be read
pub record IsUnread (request : RequestView) (before after : Devices) (status : ℕ) : Type 0 where
  pub keeps : KeepsFiles before.disk after.disk
  pub says : Says before.said after.said (Complains request.definition OfSystem ∷ [])
  pub is_status : status ≡ 3

-- what is done for a library that is asked for
abbrev pub Makes : Bool → ForMachine → RequestView → Devices → Devices → ℕ → Type 0
Makes known machines request before after status =
    IsRead known machines request before after status ⊎ IsUnread request before after status

-- the name of the program in what it says
abbrev pub own_name : List ℕ
own_name = codes "implib_dlltool"

-- The name that the program says of itself: the one that it is called by, without its directory;
-- its own where that is none. For example, called as `d/llvm-lib` it says llvm-lib.
abbrev pub subject_of : List ℕ → List ℕ
subject_of program = if is_empty_text (last_part program) then own_name else last_part program

-- one complaint was said, and nothing else was done
pub record Complained (name : List ℕ) (complaint : ComplaintView) (number : ℕ)
    (before after : Devices) (printed prints : Option (List ℕ)) (status : ℕ) : Type 0 where
  pub same_disk : after.disk ≡ before.disk
  pub same_input : after.input ≡ before.input
  pub same_output : prints ≡ printed
  pub says : Says before.said after.said (Complains name complaint ∷ [])
  pub is_status : status ≡ number

-- the text is on standard output, and nothing was said
pub record IsPrinted (text : List ℕ) (before after : Option (List Line))
    (printed prints : Option (List ℕ)) (status : ℕ) : Type 0 where
  pub appends : Appends printed prints text
  pub silent : after ≡ before
  pub is_status : status ≡ 0

-- writing the text failed
pub record IsUnprinted (name : List ℕ) (before after : Option (List Line))
    (status : ℕ) : Type 0 where
  pub says : Says before after (Complains name OfSystem ∷ [])
  pub is_status : status ≡ 3

-- what is done for a text that is asked for
abbrev pub Prints : List ℕ → List ℕ → Option (List Line) → Option (List Line) → Option (List ℕ) →
    Option (List ℕ) → ℕ → Type 0
Prints name text before after printed prints status =
    IsPrinted text before after printed prints status ⊎ IsUnprinted name before after status

-- a text was printed, or that failed, and nothing else was done
pub record OnlyPrints (name text : List ℕ) (before after : Devices)
    (printed prints : Option (List ℕ)) (status : ℕ) : Type 0 where
  pub same_disk : after.disk ≡ before.disk
  pub same_input : after.input ≡ before.input
  pub outcome : Prints name text before.said after.said printed prints status

-- what was asked for was made, in no place of a file that was read, and nothing printed
pub record OnlyMakes (known : Bool) (machines : ForMachine) (request : RequestView)
    (before after : Devices) (printed prints : Option (List ℕ)) (status : ℕ) : Type 0 where
  pub apart : AreApart before.disk request
  pub same_output : prints ≡ printed
  pub outcome : Makes known machines request before after status

-- a library would take the place of a file that is read, or of the other library, which was said
pub record WasMisplaced (name : List ℕ) (request : RequestView) (before after : Devices)
    (printed prints : Option (List ℕ)) (status : ℕ) : Type 0 where
  pub fault : CallFaultView
  pub is : IsMisplaced before.disk request fault
  pub complained : Complained name (OfCall fault) 2 before after printed prints status

-- a complaint of a file was said, and nothing printed
pub record OnlyComplains (path : List ℕ) (complaint : ComplaintView) (number : ℕ)
    (before after : Option (List Line))
    (printed prints : Option (List ℕ)) (status : ℕ) : Type 0 where
  pub same_output : prints ≡ printed
  pub says : Says before after (Complains path complaint ∷ [])
  pub is_status : status ≡ number

-- what the disk could not tell was said, and nothing else was done
pub record IsUntold (name : List ℕ) (before after : Devices) (printed prints : Option (List ℕ))
    (status : ℕ) : Type 0 where
  pub keeps : KeepsFiles before.disk after.disk
  pub same_input : after.input ≡ before.input
  pub complains : OnlyComplains name OfSystem 3 before.said after.said printed prints status

-- what is done for a library that is asked for, unless it would take the place of another file
abbrev pub MakesApart : Bool → List ℕ → ForMachine → RequestView → Devices → Devices →
    Option (List ℕ) → Option (List ℕ) → ℕ → Type 0
MakesApart known name machines request before after printed prints status =
    OnlyMakes known machines request before after printed prints status
    ⊎ WasMisplaced name request before after printed prints status
    ⊎ IsUntold name before after printed prints status

-- the DLLs of a library were printed, or that there are none was said
abbrev pub NamesDlls : List ℕ → List ℕ → Result (List ℕ) NotIdentified → Option (List Line) →
    Option (List Line) → Option (List ℕ) → Option (List ℕ) → ℕ → Type 0
NamesDlls name path (Ok lines) before after printed prints status =
    Prints name lines before after printed prints status
NamesDlls name path (Err fault) before after printed prints status =
    OnlyComplains path (OfIdentity fault) 1 before after printed prints status

-- a library was read, and its DLLs named, unless memory was refused
pub record IsIdentified (name path : List ℕ) (wanted : Wanted) (before after : Devices)
    (printed prints : Option (List ℕ)) (status : ℕ) : Type 0 where
  pub bytes : List ℕ
  pub read : IfSome (before.disk.seen path) (λ file. bytes ≡ file)
  pub same_disk : after.disk ≡ before.disk
  pub outcome :
      NamesDlls name path (identified wanted bytes) before.said after.said printed prints status
      ⊎ OnlyComplains name OfMemory 3 before.said after.said printed prints status

-- a library could not be read
pub record IsUnidentified (path : List ℕ) (before after : Devices)
    (printed prints : Option (List ℕ)) (status : ℕ) : Type 0 where
  pub keeps : KeepsFiles before.disk after.disk
  pub complains : OnlyComplains path OfSystem 3 before.said after.said printed prints status

-- what is done for a library whose DLLs are asked for
pub record Identifies (name path : List ℕ) (wanted : Wanted) (before after : Devices)
    (printed prints : Option (List ℕ)) (status : ℕ) : Type 0 where
  pub same_input : after.input ≡ before.input
  pub outcome :
      IsIdentified name path wanted before after printed prints status
      ⊎ IsUnidentified path before after printed prints status

-- what the program prints for `--help`: the options, and those in LIB's words, with a text in front
-- of each and behind them
abbrev pub help_text : List ℕ
help_text = FRONT.now ++ help_lines Dlltool ++ MIDDLE.now ++ help_lines Lib ++ END.now

-- what is done for what options ask for
abbrev pub DoesTask : Bool → List ℕ → ForMachine → Asked TaskView → Devices → Devices →
    Option (List ℕ) → Option (List ℕ) → ℕ → Type 0
DoesTask known name machines (Ok AsksHelp) before after printed prints status =
    OnlyPrints name help_text before after printed prints status
DoesTask known name machines (Ok AsksVersion) before after printed prints status =
    OnlyPrints name VERSION.now before after printed prints status
DoesTask known name machines (Ok (AsksIdentity path wanted)) before after printed prints
    status =
    Identifies name path wanted before after printed prints status
DoesTask known name machines (Ok (Asks request)) before after printed prints status =
    MakesApart known name machines request before after printed prints status
DoesTask known name machines (Err fault) before after printed prints status =
    Complained name (OfCall fault) 2 before after printed prints status

-- what is done for options, where the program is called so, unless memory is refused
abbrev pub DoesOptions : Bool → List ℕ → List GivenView → Devices → Devices →
    Option (List ℕ) → Option (List ℕ) → ℕ → Type 0
DoesOptions known program options before after printed prints status =
    DoesTask known (subject_of program) (request_for (caller_of program) options)
    (task_of (caller_of program) options) before after printed prints status
    ⊎ Complained (subject_of program) OfMemory 3 before after printed prints status

-- what is done for words that are read so
abbrev pub DoesRead : Bool → List ℕ → Reading → Devices → Devices → Option (List ℕ) →
    Option (List ℕ) → ℕ → Type 0
DoesRead known program (Ok options) before after printed prints status =
    DoesOptions known program options before after printed prints status
DoesRead known program (Err fault) before after printed prints status =
    Complained (subject_of program) (OfWord fault) 2 before after printed prints status

-- what is done for words, where the program is called so, unless memory is refused
abbrev pub DoesWords : Bool → List ℕ → List (List ℕ) → Devices → Devices → Option (List ℕ) →
    Option (List ℕ) → ℕ → Type 0
DoesWords known program words before after printed prints status =
    ((reading : Reading) × AreRead program words reading
    × DoesRead known program reading before after printed prints status)
    ⊎ Complained (subject_of program) OfMemory 3 before after printed prints status

-- the name that the program is called by: the first argument
abbrev pub called_by : List (List ℕ) → List ℕ
called_by [] = own_name
called_by (program ∷ words) = program

-- what a run does for a command line
abbrev pub Runs : Bool → List (List ℕ) → Devices → Devices → Option (List ℕ) →
    Option (List ℕ) → ℕ → Type 0
Runs known arguments before after printed prints status =
    DoesWords known (called_by arguments) (drop 1 arguments) before after printed prints
    status

-- what is done for the arguments of a process: where memory for them is refused, the program goes
-- by its own name
abbrev pub Performs : Bool → List (List ℕ) → Devices → Devices → Option (List ℕ) →
    Option (List ℕ) → ℕ → Type 0
Performs known arguments before after printed prints status =
    Runs known arguments before after printed prints status
    ⊎ Complained own_name OfMemory 3 before after printed prints status

-- the command line cannot be read: an argument, which is told, is not UTF-8, or the system failed
abbrev pub IsUncalled : ErrorKind → List ℕ → Devices → Devices → Option (List ℕ) → Option (List ℕ) →
    ℕ → Type 0
IsUncalled InvalidData unread before after printed prints status =
    Complained own_name (OfArgument unread) 2 before after printed prints status
IsUncalled _ unread before after printed prints status =
    Complained own_name OfSystem 3 before after printed prints status
