-- What is done with the bytes of a DLL (this project's own).
use Rattle.std.specs.Prelude.{◌≡◌, ◌⊎◌, ℕ, Bool, true, false, List, [], ◌∷◌, Option, None, Some}
use Rattle.std.specs.Prelude.{IfSome, ◌&&◌, codes, count_by, is_none, nat_lt, not}
use Rattle.std.specs.Str.{bytes_eq}
use Rattle.implib.specs.declared.machine.MachineType.{MachineType}
use Rattle.implib.specs.Definition.{ExportView}
use Rattle.implib.specs.Import.{is_empty_text}
use Rattle.implib.specs.Members.MemberSpec.{MemberView}
use Rattle.implib_dll.specs.Exports.{Exports}
use Rattle.implib_compare.specs.DllCheck.DllName.{loader_name}
use Rattle.implib_driver.specs.declared.dll.DllCallError.{DllCallError}
use Rattle.implib_driver.specs.declared.dll.DllCallError.TheVariants.{Call, Dll}
use Rattle.implib_driver.specs.declared.dll.DllRefusal.{DllRefusal}
use Rattle.implib_driver.specs.declared.dll.DllRefusal.TheVariants.{OutOfMemory}
use Rattle.implib_options.specs.Given.{has_values}
use Rattle.implib_driver.specs.Disk.{DiskView, failing}
use Rattle.implib_driver.specs.Dll.{IsRefusalOfReading, IsRefusalOfRequest, IsRequested, IsUnlisted}
use Rattle.implib_driver.specs.Dll.{IsUnmade, MembersOfDll, ReadsDll, SuitsDll, dll_status}
use Rattle.implib_driver.specs.Placing.{Answer, AnswersMembers}
use Rattle.implib_driver.specs.Reports.{ComplaintView, Complains, Line, OfAstray, OfCall, OfDll}
use Rattle.implib_driver.specs.Reports.{OfMissing, OfNoLibrary, OfRenamed, OfStub, OfSystem}
use Rattle.implib_driver.specs.Reports.{Refuses, Says}
use Rattle.implib_driver.specs.Request.{Asked, ReplacesSearched, RequestView, call_fault_view}
use Rattle.implib_driver.specs.Search.{IsSearched, TakesDll}
use Rattle.implib_driver.specs.Stubs.{has_failing_stub}
use Rattle.implib_driver.specs.Verdicts.{answer_status, verdict}
use Rattle.implib_libraries.specs.declared.of_dll.decorations.NotDecorations.{NotDecorations}
use Rattle.implib_libraries.specs.declared.of_dll.decorations.NotDecorations.TheVariants.{NoLibrary}
use Rattle.implib_libraries.specs.declared.of_dll.decorations.NotDecorations.TheVariants.{Text}
use Rattle.implib_libraries.specs.OfDll.Decorated.{is_missing, with_symbols}
use Rattle.implib_libraries.specs.OfDll.Decorations.{AreDecorations, DecorationView}
use Rattle.implib_libraries.specs.OfDll.Decorations.{HasNoDecorations}
use Rattle.implib_libraries.specs.FromDll.Definition.{exports_of}
use Rattle.implib_rules.specs.Library.{status_of}
use Rattle.implib_rules.specs.Names.{last_part}

-- the library of members was put, and then the answer was said
pub record PutsMembers (known : Bool) (members : List MemberView) (request : RequestView)
    (disk put : DiskView) (before after : Option (List Line)) (status : ℕ) : Type 0 where
  pub answer : Answer
  pub answers : AnswersMembers known disk put members request answer
  pub says : Says before after (verdict request answer)
  pub is_status : status ≡ answer_status answer

-- exports of a DLL have members whose stubs can run, and their library was put
pub record IsMade (known : Bool) (e : Exports) (exports : List ExportView) (request : RequestView)
    (disk put : DiskView) (before after : Option (List Line)) (status : ℕ) : Type 0 where
  pub members : List MemberView
  pub made : MembersOfDll e exports request members
  pub runs : has_failing_stub request.library members ≡ false
  pub puts : PutsMembers known members request disk put before after status

-- exports of a DLL have members whose stubs cannot run; that was said, and nothing was put
pub record HasDllFailingStub (e : Exports) (exports : List ExportView) (request : RequestView)
    (disk put : DiskView) (before after : Option (List Line)) (status : ℕ) : Type 0 where
  pub members : List MemberView
  pub made : MembersOfDll e exports request members
  pub fails : has_failing_stub request.library members ≡ true
  pub same_disk : put ≡ disk
  pub says : Says before after (Complains request.definition OfStub ∷ [])
  pub is_status : status ≡ 1

-- why there is no library was said, and nothing was put
pub record IsRefused (path : List ℕ) (so : DllRefusal → Type 0) (disk put : DiskView)
    (before after : Option (List Line)) (status : ℕ) : Type 0 where
  pub refusal : DllRefusal
  pub is_so : so refusal
  pub same_disk : put ≡ disk
  pub says : Says before after (Complains path (OfDll refusal) ∷ [])
  pub is_status : status ≡ dll_status refusal

-- what is said where there is no request for a DLL
abbrev pub complaint_of : DllCallError → ComplaintView
complaint_of (Call fault) = OfCall (call_fault_view fault)
complaint_of (Dll refusal) = OfDll refusal

-- the exit status then: 2 where the options do not fit the machine
abbrev pub call_status : DllCallError → ℕ
call_status (Call fault) = 2
call_status (Dll refusal) = dll_status refusal

-- what is done for these exports of a DLL
abbrev pub FinishesList : Bool → Exports → List ExportView → RequestView → DiskView → DiskView →
    Option (List Line) → Option (List Line) → ℕ → Type 0
FinishesList known e exports request disk put before after status =
    IsMade known e exports request disk put before after status
    ⊎ HasDllFailingStub e exports request disk put before after status
    ⊎ IsRefused request.definition (IsUnmade e exports request) disk put before after status

-- the file of symbols could not be read
pub record HasUnreadFile (path : List ℕ) (disk put : DiskView) (before after : Option (List Line))
    (status : ℕ) : Type 0 where
  pub failed : put ≡ failing disk
  pub says : Says before after (Complains path OfSystem ∷ [])
  pub is_status : status ≡ 3

-- what is said of a file that has no symbols, and the exit status then
abbrev pub undecorated_lines : List ℕ → NotDecorations → List Line
undecorated_lines path NoLibrary = Complains path OfNoLibrary ∷ []
undecorated_lines path (Text refusal) = Refuses path refusal ∷ []

abbrev pub undecorated_status : NotDecorations → ℕ
undecorated_status NoLibrary = 1
undecorated_status (Text refusal) = status_of refusal

-- whether a number is said, as of functions that a file lacks, or of forwarders that lead to
-- nothing
abbrev pub tells : RequestView → ℕ → Bool
tells request count = request.is_verbose && nat_lt 0 count

-- that was said, or not
abbrev pub SaysIf : Bool → List ℕ → ComplaintView → Option (List Line) → Option (List Line) → Type 0
SaysIf false path complaint before after = after ≡ before
SaysIf true path complaint before after = Says before after (Complains path complaint ∷ [])

-- The file has these symbols. How many functions it lacks was said, if warnings are asked for; then
-- this was done with the exports that have them.
pub record HasSymbols (known : Bool) (e : Exports) (exports : List ExportView) (bytes path : List ℕ)
    (request : RequestView) (disk put : DiskView) (before after : Option (List Line)) (status : ℕ)
    : Type 0 where
  pub decorations : List DecorationView
  pub are : AreDecorations bytes decorations
  pub warned : Option (List Line)
  pub missing : ℕ
  pub counted : missing ≡ count_by (is_missing decorations) exports
  pub warns : SaysIf (tells request missing) path (OfMissing missing) before warned
  pub finishes : FinishesList known e
      (with_symbols request.library.naming decorations e.names exports) request disk put warned
      after status

-- the file has none, which was said, and nothing was put
pub record LacksSymbols (bytes path : List ℕ) (disk put : DiskView)
    (before after : Option (List Line)) (status : ℕ) : Type 0 where
  pub why : NotDecorations
  pub refused : HasNoDecorations bytes why
  pub same_disk : put ≡ disk
  pub says : Says before after (undecorated_lines path why)
  pub is_status : status ≡ undecorated_status why

-- what is done for exports of a DLL with the bytes of a file of symbols
abbrev pub FinishesBytes : Bool → Exports → List ExportView → List ℕ → List ℕ → RequestView →
    DiskView → DiskView → Option (List Line) → Option (List Line) → ℕ → Type 0
FinishesBytes known e exports bytes path request disk put before after status =
    HasSymbols known e exports bytes path request disk put before after status
    ⊎ LacksSymbols bytes path disk put before after status

-- the file of symbols was read, and this was done with its bytes
pub record HasFile (known : Bool) (e : Exports) (exports : List ExportView) (path : List ℕ)
    (request : RequestView) (disk put : DiskView) (before after : Option (List Line)) (status : ℕ)
    : Type 0 where
  pub bytes : List ℕ
  pub read : IfSome (disk.seen path) (λ file. bytes ≡ file)
  pub finishes : FinishesBytes known e exports bytes path request disk put before after status

-- what is done for exports of a DLL, with the symbols of a file where one is given
abbrev pub FinishesListed : Bool → Exports → List ExportView → Option (List ℕ) → RequestView →
    DiskView → DiskView → Option (List Line) → Option (List Line) → ℕ → Type 0
FinishesListed known e exports None request disk put before after status =
    FinishesList known e exports request disk put before after status
FinishesListed known e exports (Some path) request disk put before after status =
    HasFile known e exports path request disk put before after status
    ⊎ HasUnreadFile path disk put before after status

-- The exports of a DLL are of the kinds that they have through those of the folders, and this
-- number of them are forwarded to nothing there. Then that was said, if warnings are asked for, and
-- this was done with them.
pub record HasSearched (known : Bool) (e : Exports) (request : RequestView) (disk put : DiskView)
    (before after : Option (List Line)) (status : ℕ) : Type 0 where
  pub exports : List ExportView
  pub astray : ℕ
  pub searched : IsSearched disk e request (exports_of e) exports astray
  pub warned : Option (List Line)
  pub warns : SaysIf (tells request astray) request.definition (OfAstray astray) before warned
  pub finishes : FinishesListed known e exports request.decorations request disk put warned after
      status

-- a folder, or the file of a DLL in one, could not be read
pub record HasUnreadFolder (disk put : DiskView) (before after : Option (List Line))
    (status : ℕ) : Type 0 where
  pub path : List ℕ
  pub unread : HasUnreadFile path disk put before after status

-- the library would take the place of a DLL in a folder, which was said, and nothing was put
pub record WouldTakeDll (request : RequestView) (disk put : DiskView)
    (before after : Option (List Line)) (status : ℕ) : Type 0 where
  pub takes : TakesDll disk request.output
  pub same_disk : put ≡ disk
  pub says : Says before after (Complains request.definition (OfCall ReplacesSearched) ∷ [])
  pub is_status : status ≡ 2

-- what is done for a DLL, where the DLLs of folders are searched, and where none is
abbrev pub FinishesKinds : Bool → Bool → Exports → RequestView → DiskView → DiskView →
    Option (List Line) → Option (List Line) → ℕ → Type 0
FinishesKinds false known e request disk put before after status =
    FinishesListed known e (exports_of e) request.decorations request disk put before after status
FinishesKinds true known e request disk put before after status =
    HasSearched known e request disk put before after status
    ⊎ HasUnreadFolder disk put before after status
    ⊎ WouldTakeDll request disk put before after status
    ⊎ IsRefused request.definition (λ refusal. refusal ≡ OutOfMemory) disk put before after status

-- whether the name of a DLL by its export directory is another than its file's, as loaders compare
-- names, and none is given
abbrev pub is_renamed : RequestView → Exports → Bool
is_renamed request e =
    is_none request.library.dll
    && (not (bytes_eq request.definition (codes "-")) && (not (is_empty_text e.dll)
    && not (bytes_eq (loader_name (last_part request.definition)) (loader_name e.dll))))

-- what is asked for suits a DLL; it was said where its directory has another name than its file,
-- and this was done for it
pub record IsSuited (known : Bool) (e : Exports) (request : RequestView) (disk put : DiskView)
    (before after : Option (List Line)) (status : ℕ) : Type 0 where
  pub suits : SuitsDll request
  pub warned : Option (List Line)
  pub warns : SaysIf (is_renamed request e) request.definition OfRenamed before warned
  pub finishes : FinishesKinds (has_values request.search) known e request disk put warned after
      status

-- what is done for a DLL of these exports and a request that fits its machine
abbrev pub FinishesExports : Bool → Exports → RequestView → DiskView → DiskView →
    Option (List Line) → Option (List Line) → ℕ → Type 0
FinishesExports known e request disk put before after status =
    IsSuited known e request disk put before after status
    ⊎ IsRefused request.definition (IsUnlisted e request) disk put before after status

-- a DLL was read, there is a request for its machine, and this was done for it
pub record IsAsked (known : Bool) (machines : MachineType → Asked RequestView) (e : Exports)
    (disk put : DiskView) (before after : Option (List Line)) (status : ℕ) : Type 0 where
  pub request : RequestView
  pub requested : IsRequested machines e request
  pub finishes : FinishesExports known e request disk put before after status

-- why there is no request for the machine of the DLL was said, and nothing was put
pub record IsUnasked (machines : MachineType → Asked RequestView) (path : List ℕ) (e : Exports)
    (disk put : DiskView) (before after : Option (List Line)) (status : ℕ) : Type 0 where
  pub error : DllCallError
  pub refused : IsRefusalOfRequest machines e error
  pub same_disk : put ≡ disk
  pub says : Says before after (Complains path (complaint_of error) ∷ [])
  pub is_status : status ≡ call_status error

-- a DLL was read, and this was done for it
pub record IsReadDll (known : Bool) (machines : MachineType → Asked RequestView)
    (bytes path : List ℕ) (disk put : DiskView) (before after : Option (List Line)) (status : ℕ)
    : Type 0 where
  pub exports : Exports
  pub reads : ReadsDll bytes exports
  pub outcome :
      IsAsked known machines exports disk put before after status
      ⊎ IsUnasked machines path exports disk put before after status

-- what is done with the bytes of a DLL, whose requests are by machine
abbrev pub FinishesDll : Bool → (MachineType → Asked RequestView) → List ℕ → List ℕ → DiskView →
    DiskView → Option (List Line) → Option (List Line) → ℕ → Type 0
FinishesDll known machines bytes path disk put before after status =
    IsReadDll known machines bytes path disk put before after status
    ⊎ IsRefused path (IsRefusalOfReading bytes) disk put before after status
