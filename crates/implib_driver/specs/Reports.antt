-- What the program says on standard error, as what it says and of what; the words of a line are not
-- stated.
use Rattle.std.specs.Prelude.{◌≡◌, ℕ, List, ◌++◌, Option, None, Some}
use Rattle.implib_libraries.specs.declared.arm64ec.Unimported.{Unimported}
use Rattle.implib_libraries.specs.declared.delayed.Undelayed.{Undelayed}
use Rattle.implib_driver.specs.declared.dll.DllRefusal.{DllRefusal}
use Rattle.implib_driver.specs.declared.identity.NotIdentified.{NotIdentified}
use Rattle.implib_driver.specs.declared.reporter.Complaint.{Complaint}
use Rattle.implib_driver.specs.declared.reporter.Complaint.TheVariants as complaint
use Rattle.implib_driver.specs.Request.{CallFaultView, call_fault_view}
use Rattle.implib_options.specs.Saying.{FaultView, fault_view}
use Rattle.implib_rules.specs.declared.library.Refusal.{Refusal}
use Rattle.implib_rules.specs.Warnings.{WarningView}

-- what the program complains of
pub data ComplaintView : Type 0 where
  -- a word of the command line
  OfWord : FaultView → ComplaintView
  -- what the options ask for
  OfCall : CallFaultView → ComplaintView
  -- an argument that is not UTF-8, as far as it can be shown
  OfArgument : List ℕ → ComplaintView
  -- want of memory
  OfMemory : ComplaintView
  -- a failed call of the system
  OfSystem : ComplaintView
  -- a library that was not written whole
  OfWriting : ComplaintView
  -- a library whose DLLs are not named
  OfIdentity : NotIdentified → ComplaintView
  -- stubs that cannot run
  OfStub : ComplaintView
  -- a definition in UTF-16
  OfUtf16 : ComplaintView
  -- a definition that has no library of delayed imports
  OfUndelayed : Undelayed → ComplaintView
  -- exports that a library of delayed imports leaves out: how many, and the first
  OfLeftOut : ℕ → List ℕ → ComplaintView
  -- a definition that has no short imports for ARM64EC
  OfUnimported : Unimported → ComplaintView
  -- a DLL that has no library
  OfDll : DllRefusal → ComplaintView
  -- a file that begins as an archive does, and is none
  OfNoLibrary : ComplaintView
  -- functions of a DLL that a file of symbols lacks
  OfMissing : ℕ → ComplaintView
  -- forwarders of a DLL that lead to nothing in some folders
  OfAstray : ℕ → ComplaintView
  -- a DLL whose export directory has another name than its file
  OfRenamed : ComplaintView

-- the view of a complaint of the program
abbrev pub complaint_view : Complaint → ComplaintView
complaint_view (complaint.Word fault) = OfWord (fault_view fault)
complaint_view (complaint.Call fault) = OfCall (call_fault_view fault)
complaint_view (complaint.NotUtf8 text) = OfArgument text.now
complaint_view complaint.OutOfMemory = OfMemory
complaint_view (complaint.System cause) = OfSystem
complaint_view (complaint.Writing cause) = OfWriting
complaint_view (complaint.Identity fault) = OfIdentity fault
complaint_view complaint.FailingStub = OfStub
complaint_view complaint.Utf16 = OfUtf16
complaint_view (complaint.Undelayed why) = OfUndelayed why
complaint_view (complaint.LeftOut count first) = OfLeftOut count first.now
complaint_view (complaint.Unimported why) = OfUnimported why
complaint_view (complaint.Dll refusal) = OfDll refusal
complaint_view complaint.NoLibrary = OfNoLibrary
complaint_view (complaint.Missing count) = OfMissing count
complaint_view (complaint.Astray count) = OfAstray count
complaint_view complaint.Renamed = OfRenamed

-- what is said at once
pub data Line : Type 0 where
  -- a warning of the definition of a path, whose exports are in these lines
  Warns : List ℕ → WarningView → List ℕ → Line
  -- the refusal of the definition of a path
  Refuses : List ℕ → Refusal → Line
  -- a complaint, of a path or of the program
  Complains : List ℕ → ComplaintView → Line

-- these lines were said after what was said before, if that is known
abbrev pub Says : Option (List Line) → Option (List Line) → List Line → Type 0
Says None after lines = Unit {0}
Says (Some said) None lines = ⊥
Says (Some said) (Some more) lines = more ≡ said ++ lines
