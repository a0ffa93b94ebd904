-- Members by their index, as a source is asked for them.
use Rattle.std.specs.Prelude.{ℕ, List, [], get_or}
use Rattle.implib.specs.Members.MemberSpec.{MemberView}

-- what stands past the last member, of which nothing is asked
abbrev pub no_member : MemberView
no_member = record { name = []; bytes = []; symbols = [] }

-- the member at an index, from 0
abbrev pub member_at : List MemberView → ℕ → MemberView
member_at members index = get_or members index no_member

-- the symbol of a member at a number, from 0
abbrev pub symbol_at : MemberView → ℕ → List ℕ
symbol_at m number = get_or m.symbols number []
