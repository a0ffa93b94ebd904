-- The grammar of mangled names of C++ for Microsoft's compilers, as far as qualified names need it
-- (LLVM, "MicrosoftDemangle.cpp"). The first byte of a part decides: a definition gives the parts
-- that are still to come behind that byte, or none where no part of this kind begins with it.
use Rattle.std.specs.Prelude.{ℕ, ◌-◌, Bool, ◌&&◌, ◌||◌, ◌==◌, nat_le, List, [], ◌∷◌, ◌++◌}
use Rattle.std.specs.Prelude.{replicate, codes}
use Rattle.std.specs.Prelude.{Option, Some, None, option_map, if◌then◌else◌}
use Rattle.implib.specs.Ascii.{holds}
use Rattle.implib_arm64ec.specs.declared.nonterminal.Nonterminal.{Nonterminal}
use Rattle.implib_arm64ec.specs.declared.nonterminal.Nonterminal.TheVariants.{Leaf, LeafMark}
use Rattle.implib_arm64ec.specs.declared.nonterminal.Nonterminal.TheVariants.{LeafUnderscore}
use Rattle.implib_arm64ec.specs.declared.nonterminal.Nonterminal.TheVariants.{LeafUnderscores, Name}
use Rattle.implib_arm64ec.specs.declared.nonterminal.Nonterminal.TheVariants.{NameRest, Scopes}
use Rattle.implib_arm64ec.specs.declared.nonterminal.Nonterminal.TheVariants.{ScopeMark, Letters}
use Rattle.implib_arm64ec.specs.declared.nonterminal.Nonterminal.TheVariants.{Mark, At, Arguments}
use Rattle.implib_arm64ec.specs.declared.nonterminal.Nonterminal.TheVariants.{Argument}
use Rattle.implib_arm64ec.specs.declared.nonterminal.Nonterminal.TheVariants.{ArgumentDollar}
use Rattle.implib_arm64ec.specs.declared.nonterminal.Nonterminal.TheVariants.{ArgumentDollars}
use Rattle.implib_arm64ec.specs.declared.nonterminal.Nonterminal.TheVariants.{PackEnd, AnyType}
use Rattle.implib_arm64ec.specs.declared.nonterminal.Nonterminal.TheVariants.{TypeDollar}
use Rattle.implib_arm64ec.specs.declared.nonterminal.Nonterminal.TheVariants.{TypeDollars}
use Rattle.implib_arm64ec.specs.declared.nonterminal.Nonterminal.TheVariants.{TypeUnderscore}
use Rattle.implib_arm64ec.specs.declared.nonterminal.Nonterminal.TheVariants.{AnyByte, Array}
use Rattle.implib_arm64ec.specs.declared.nonterminal.Nonterminal.TheVariants.{FunctionType}
use Rattle.implib_arm64ec.specs.declared.nonterminal.Nonterminal.TheVariants.{Qualifiers, Qualifier}
use Rattle.implib_arm64ec.specs.declared.nonterminal.Nonterminal.TheVariants.{Pointee, PointeeRest}
use Rattle.implib_arm64ec.specs.declared.nonterminal.Nonterminal.TheVariants.{ClassName, ClassNames}
use Rattle.implib_arm64ec.specs.declared.nonterminal.Nonterminal.TheVariants.{Number, Unsigned}
use Rattle.implib_arm64ec.specs.declared.nonterminal.Nonterminal.TheVariants.{Signature, ReturnType}
use Rattle.implib_arm64ec.specs.declared.nonterminal.Nonterminal.TheVariants.{Parameters}
use Rattle.implib_arm64ec.specs.declared.nonterminal.Nonterminal.TheVariants.{ParametersRest}
use Rattle.implib_arm64ec.specs.declared.nonterminal.Nonterminal.TheVariants.{SignatureEnd}
use Rattle.implib_arm64ec.specs.declared.nonterminal.Nonterminal.TheVariants.{NoExcept, MangledName}
use Rattle.implib_arm64ec.specs.declared.nonterminal.Nonterminal.TheVariants.{Encoding, Storage}
use Rattle.implib_arm64ec.specs.declared.nonterminal.Nonterminal.TheVariants.{StorageRest}

abbrev pub is_digit : ℕ → Bool
is_digit b = nat_le 0x30 b && nat_le b 0x39

abbrev pub is_capital : ℕ → Bool
is_capital b = nat_le 0x41 b && nat_le b 0x5A

-- some parts, if there are any, and then others
abbrev pub followed : Option (List Nonterminal) → List Nonterminal → Option (List Nonterminal)
followed parts then_parts = option_map (λ parts. parts ++ then_parts) parts

-- letters from A to P, for the digits to the base 16, and `@`
abbrev pub letters : ℕ → Option (List Nonterminal)
letters b =
    if b == 0x40 then Some []
    else if holds b (codes "ABCDEFGHIJKLMNOP") then Some (Letters ∷ [])
    else None

-- qualifiers of a value, and of a member, with its class
abbrev pub qualifier : ℕ → Option (List Nonterminal)
qualifier b =
    if holds b (codes "ABCD") then Some []
    else if holds b (codes "QRST") then Some (ClassName ∷ [])
    else None

-- A type without `$`: with qualifiers, a built-in one, a class, an enumeration, a pointer, an
-- array.
abbrev pub plain_type : ℕ → Option (List Nonterminal)
plain_type b =
    if b == 0x3F then Some (Qualifier ∷ AnyType ∷ [])
    else if holds b (codes "CDEFGHIJKMNOX") then Some []
    else if b == 0x5F then Some (TypeUnderscore ∷ [])
    else if holds b (codes "TUV") then Some (ClassName ∷ [])
    else if b == 0x57 then Some (AnyByte ∷ ClassName ∷ [])
    else if holds b (codes "ABPQRS") then Some (Pointee ∷ [])
    else if b == 0x59 then Some (Array ∷ [])
    else None

-- A type behind `$$`: with qualifiers, a reference to a value that moves, a function, the type of
-- `nullptr`.
abbrev pub type_dollars : ℕ → Option (List Nonterminal)
type_dollars b =
    if b == 0x43 then Some (Qualifier ∷ AnyType ∷ [])
    else if holds b (codes "QR") then Some (Pointee ∷ [])
    else if b == 0x41 then Some (FunctionType ∷ [])
    else if b == 0x54 then Some []
    else None

-- a digit, or letters
abbrev pub unsigned : ℕ → Option (List Nonterminal)
unsigned b =
    if is_digit b then Some []
    else letters b

-- A scope: a digit for a name seen before, or a plain name.
abbrev pub scope : ℕ → Option (List Nonterminal)
scope b =
    if is_digit b then Some []
    else if b == 0x3F then Some (ScopeMark ∷ [])
    else if b == 0x40 then None
    else Some (NameRest ∷ [])

-- An argument: a digit for a type seen before, or a type.
abbrev pub argument : ℕ → Option (List Nonterminal)
argument b =
    if b == 0x24 then Some (ArgumentDollar ∷ [])
    else if is_digit b then Some []
    else plain_type b

-- a type
abbrev pub any_type : ℕ → Option (List Nonterminal)
any_type b =
    if b == 0x24 then Some (TypeDollar ∷ [])
    else plain_type b

-- a variable's qualifiers
abbrev pub storage_rest : ℕ → Option (List Nonterminal)
storage_rest b =
    if b == 0x49 then Some (Qualifier ∷ [])
    else qualifier b

-- qualifiers of the pointer, and a type
abbrev pub pointee_rest : ℕ → Option (List Nonterminal)
pointee_rest b =
    if holds b (codes "EFI") then Some (PointeeRest ∷ [])
    else followed (qualifier b) (AnyType ∷ [])

-- Parameters up to an `@`, or to a `Z` for more of any type; a digit for a type seen before.
abbrev pub parameters_rest : ℕ → Option (List Nonterminal)
parameters_rest b =
    if holds b (codes "@Z") then Some []
    else if is_digit b then Some (ParametersRest ∷ [])
    else followed (any_type b) (ParametersRest ∷ [])

-- A leaf, by its first byte: a digit for a name seen before, or a plain name.
abbrev pub leaf : ℕ → Option (List Nonterminal)
leaf b =
    if is_digit b then Some []
    else if b == 0x3F then Some (LeafMark ∷ [])
    else if b == 0x40 then None
    else Some (NameRest ∷ [])

-- a template, or the code of an operator
abbrev pub leaf_mark : ℕ → Option (List Nonterminal)
leaf_mark b =
    if b == 0x24 then Some (Leaf ∷ Arguments ∷ [])
    else if b == 0x5F then Some (LeafUnderscore ∷ [])
    else if is_digit b || is_capital b then Some []
    else None

-- the code of an operator behind `?_`
abbrev pub leaf_underscore : ℕ → Option (List Nonterminal)
leaf_underscore b =
    if b == 0x5F then Some (LeafUnderscores ∷ [])
    else if is_digit b || is_capital b then Some []
    else None

-- The code of an operator behind `?__`: a literal's has a name.
abbrev pub leaf_underscores : ℕ → Option (List Nonterminal)
leaf_underscores b =
    if b == 0x4B then Some (Name ∷ [])
    else if is_digit b || is_capital b then Some []
    else None

-- a plain name is not empty
abbrev pub name : ℕ → Option (List Nonterminal)
name b =
    if b == 0x40 then None
    else Some (NameRest ∷ [])

-- a plain name ends at its `@`
abbrev pub name_rest : ℕ → Option (List Nonterminal)
name_rest b =
    if b == 0x40 then Some []
    else Some (NameRest ∷ [])

-- A template, a namespace without a name, or a block of a function, by its number.
abbrev pub scope_mark : ℕ → Option (List Nonterminal)
scope_mark b =
    if b == 0x24 then Some (Leaf ∷ Arguments ∷ [])
    else if b == 0x41 then Some (NameRest ∷ [])
    else if is_digit b || b == 0x40 then Some (Mark ∷ MangledName ∷ [])
    else if holds b (codes "BCDEFGHIJKLMNOP") then Some (Letters ∷ Mark ∷ MangledName ∷ [])
    else None

-- a `?`
abbrev pub question : ℕ → Option (List Nonterminal)
question b =
    if b == 0x3F then Some []
    else None

-- an `@`
abbrev pub at_sign : ℕ → Option (List Nonterminal)
at_sign b =
    if b == 0x40 then Some []
    else None

-- An argument behind `$`: a value, a symbol, a symbol with offsets, offsets alone.
abbrev pub argument_dollar : ℕ → Option (List Nonterminal)
argument_dollar b =
    if b == 0x53 then Some []
    else if b == 0x24 then Some (ArgumentDollars ∷ [])
    else if b == 0x4D then Some (AnyType ∷ Argument ∷ [])
    else if b == 0x30 then Some (Number ∷ [])
    else if holds b (codes "1E") then Some (MangledName ∷ [])
    else if b == 0x48 then Some (MangledName ∷ Number ∷ [])
    else if b == 0x49 then Some (MangledName ∷ Number ∷ Number ∷ [])
    else if b == 0x4A then Some (MangledName ∷ Number ∷ Number ∷ Number ∷ [])
    else if b == 0x46 then Some (Number ∷ Number ∷ [])
    else if b == 0x47 then Some (Number ∷ Number ∷ Number ∷ [])
    else None

-- An argument behind `$$`: an empty pack, the name of a template, a type.
abbrev pub argument_dollars : ℕ → Option (List Nonterminal)
argument_dollars b =
    if holds b (codes "VZ") then Some []
    else if b == 0x24 then Some (PackEnd ∷ [])
    else if b == 0x59 then Some (ClassName ∷ [])
    else if b == 0x42 then Some (AnyType ∷ [])
    else type_dollars b

-- the end of an empty pack
abbrev pub pack_end : ℕ → Option (List Nonterminal)
pack_end b =
    if b == 0x56 then Some []
    else None

-- the second `$`
abbrev pub type_dollar : ℕ → Option (List Nonterminal)
type_dollar b =
    if b == 0x24 then Some (TypeDollars ∷ [])
    else None

-- a built-in type behind `_`
abbrev pub type_underscore : ℕ → Option (List Nonterminal)
type_underscore b =
    if holds b (codes "DEFGHIJKLMNOPQSTUWZ") then Some []
    else None

-- a function, or a member function
abbrev pub function_type : ℕ → Option (List Nonterminal)
function_type b =
    if b == 0x36 then Some (Signature ∷ [])
    else if b == 0x38 then Some (At ∷ At ∷ Qualifiers ∷ Signature ∷ [])
    else None

-- Qualifiers of a member function, in any order, and of its object.
abbrev pub qualifiers : ℕ → Option (List Nonterminal)
qualifiers b =
    if holds b (codes "EFGHI") then Some (Qualifiers ∷ [])
    else qualifier b

-- a number with a sign, if it has one
abbrev pub number : ℕ → Option (List Nonterminal)
number b =
    if b == 0x3F then Some (Unsigned ∷ [])
    else unsigned b

-- the end of a signature
abbrev pub signature_end : ℕ → Option (List Nonterminal)
signature_end b =
    if b == 0x5A then Some []
    else if b == 0x5F then Some (NoExcept ∷ [])
    else None

-- the end of a function that throws nothing
abbrev pub no_except : ℕ → Option (List Nonterminal)
no_except b =
    if b == 0x45 then Some []
    else None

-- a whole mangled name
abbrev pub mangled_name : ℕ → Option (List Nonterminal)
mangled_name b =
    if b == 0x3F then Some (Leaf ∷ Scopes ∷ Encoding ∷ [])
    else None

-- A variable; a guard; a table; other data; a function, whose object may have an offset.
abbrev pub encoding : ℕ → Option (List Nonterminal)
encoding b =
    if holds b (codes "01234") then Some (AnyType ∷ Storage ∷ [])
    else if b == 0x35 then Some (Number ∷ [])
    else if holds b (codes "67") then Some (Qualifier ∷ ClassNames ∷ [])
    else if holds b (codes "89") then Some []
    else if holds b (codes "GHOPWX") then Some (Number ∷ Qualifiers ∷ Signature ∷ [])
    else if holds b (codes "ABEFIJMNQRUV") then Some (Qualifiers ∷ Signature ∷ [])
    else if holds b (codes "CDKLSTYZ") then Some (Signature ∷ [])
    else None

-- a constructor has no type of a result
abbrev pub return_type : ℕ → Option (List Nonterminal)
return_type b =
    if b == 0x40 then Some []
    else any_type b

-- An array: the number of its dimensions less 1, the dimensions, and the type of an item.
abbrev pub array : ℕ → Option (List Nonterminal)
array b =
    if is_digit b then Some (replicate (b - 0x2F) Number ++ AnyType ∷ []) else None

-- scopes up to an `@`
abbrev pub scopes : ℕ → Option (List Nonterminal)
scopes b =
    if b == 0x40 then Some []
    else followed (scope b) (Scopes ∷ [])

-- arguments up to an `@`
abbrev pub arguments : ℕ → Option (List Nonterminal)
arguments b =
    if b == 0x40 then Some []
    else followed (argument b) (Arguments ∷ [])

-- a function, a member function of a class, or a type
abbrev pub pointee : ℕ → Option (List Nonterminal)
pointee b =
    if holds b (codes "67") then Some (Signature ∷ [])
    else if holds b (codes "89") then Some (ClassName ∷ Qualifiers ∷ Signature ∷ [])
    else pointee_rest b

-- a class, with its scopes
abbrev pub class_name : ℕ → Option (List Nonterminal)
class_name b =
    followed (scope b) (Scopes ∷ [])

-- classes up to an `@`
abbrev pub class_names : ℕ → Option (List Nonterminal)
class_names b =
    if b == 0x40 then Some []
    else followed (scope b) (Scopes ∷ ClassNames ∷ [])

-- a signature, behind any byte for the convention
abbrev pub signature : ℕ → Option (List Nonterminal)
signature b =
    Some (ReturnType ∷ Parameters ∷ SignatureEnd ∷ [])

-- no parameters, or some
abbrev pub parameters : ℕ → Option (List Nonterminal)
parameters b =
    if b == 0x58 then Some []
    else parameters_rest b

-- a variable's qualifiers, the first for pointers of 64 bits
abbrev pub storage : ℕ → Option (List Nonterminal)
storage b =
    if b == 0x45 then Some (StorageRest ∷ [])
    else storage_rest b

-- the parts behind the first byte of a part
abbrev pub next : Nonterminal → ℕ → Option (List Nonterminal)
next Leaf b = leaf b
next LeafMark b = leaf_mark b
next LeafUnderscore b = leaf_underscore b
next LeafUnderscores b = leaf_underscores b
next Name b = name b
next NameRest b = name_rest b
next Scopes b = scopes b
next ScopeMark b = scope_mark b
next Letters b = letters b
next Mark b = question b
next At b = at_sign b
next Arguments b = arguments b
next Argument b = argument b
next ArgumentDollar b = argument_dollar b
next ArgumentDollars b = argument_dollars b
next PackEnd b = pack_end b
next AnyType b = any_type b
next TypeDollar b = type_dollar b
next TypeDollars b = type_dollars b
next TypeUnderscore b = type_underscore b
next AnyByte b = Some []
next Array b = array b
next FunctionType b = function_type b
next Qualifiers b = qualifiers b
next Qualifier b = qualifier b
next Pointee b = pointee b
next PointeeRest b = pointee_rest b
next ClassName b = class_name b
next ClassNames b = class_names b
next Number b = number b
next Unsigned b = unsigned b
next Signature b = signature b
next ReturnType b = return_type b
next Parameters b = parameters b
next ParametersRest b = parameters_rest b
next SignatureEnd b = signature_end b
next NoExcept b = no_except b
next MangledName b = mangled_name b
next Encoding b = encoding b
next Storage b = storage b
next StorageRest b = storage_rest b
