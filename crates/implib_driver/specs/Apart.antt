-- That no library takes the place of a file that its call reads, or of the call's other library,
-- whatever paths lead there (this project's own).
use Rattle.std.specs.Prelude.{◌≡◌, ◌⊎◌, ℕ, Bool, true, false, List, Option, None, Some, IfSome}
use Rattle.std.specs.Prelude.{codes}
use Rattle.std.specs.Option.{option_and_then}
use Rattle.std.specs.Str.{bytes_eq}
use Rattle.implib_driver.specs.Disk.{DiskView}
use Rattle.implib_driver.specs.Request.{CallFaultView, HasOneOutput, ReplacesDecorations}
use Rattle.implib_driver.specs.Request.{ReplacesDefinition, ReplacesNative, RequestView}

-- that two paths lead to one file is so, or not, where that is known
abbrev pub AreSame : DiskView → List ℕ → List ℕ → Bool → Type 0
AreSame disk one other so = IfSome (disk.same one other) (λ known. so ≡ known)

-- the file of the native definition, if one is read
abbrev pub native_of : RequestView → Option (List ℕ)
native_of request = option_and_then (λ native. native) request.arm64ec

-- a library's file is not one that is read; `-` is standard input
abbrev pub LeavesInput : DiskView → List ℕ → Option (List ℕ) → Type 0
LeavesInput disk output None = Unit {0}
LeavesInput disk output (Some path) =
    bytes_eq path (codes "-") ≡ false → AreSame disk output path false

-- it is that one
abbrev pub TakesInput : DiskView → List ℕ → Option (List ℕ) → Type 0
TakesInput disk output None = ⊥
TakesInput disk output (Some path) = AreSame disk output path true

-- a library's file is none of those that a request names for reading
pub record LeavesInputs (disk : DiskView) (request : RequestView) (output : List ℕ) : Type 0 where
  pub definition : LeavesInput disk output (Some request.definition)
  pub native : LeavesInput disk output (native_of request)
  pub decorations : LeavesInput disk output request.decorations

-- it is the one that this is about
abbrev pub TakesThat : DiskView → RequestView → List ℕ → CallFaultView → Type 0
TakesThat disk request output ReplacesDefinition =
    TakesInput disk output (Some request.definition)
TakesThat disk request output ReplacesNative = TakesInput disk output (native_of request)
TakesThat disk request output ReplacesDecorations = TakesInput disk output request.decorations
TakesThat disk request output _ = ⊥

abbrev pub TakesOne : DiskView → RequestView → Option (List ℕ) → CallFaultView → Type 0
TakesOne disk request None fault = ⊥
TakesOne disk request (Some output) fault = TakesThat disk request output fault

-- the files of two libraries are two, or one
abbrev pub AreTwo : DiskView → Option (List ℕ) → Option (List ℕ) → Type 0
AreTwo disk one other = IfSome one (λ path. IfSome other (λ second. AreSame disk path second false))

abbrev pub AreOne : DiskView → Option (List ℕ) → Option (List ℕ) → Type 0
AreOne disk None other = ⊥
AreOne disk (Some path) None = ⊥
AreOne disk (Some path) (Some other) = AreSame disk path other true

-- no library that is asked for takes the place of a file that is read, or of the other library
pub record AreApart (disk : DiskView) (request : RequestView) : Type 0 where
  pub output : IfSome request.output (LeavesInputs disk request)
  pub delayed : IfSome request.delayed (LeavesInputs disk request)
  pub two : AreTwo disk request.output request.delayed

-- one does, which this is about
abbrev pub IsMisplaced : DiskView → RequestView → CallFaultView → Type 0
IsMisplaced disk request HasOneOutput = AreOne disk request.output request.delayed
IsMisplaced disk request fault =
    TakesOne disk request request.output fault ⊎ TakesOne disk request request.delayed fault
