-- The marked examples of document 01: for each, the nodes of a smallest witness and, where a document gives it, the deep verdict. P15's is document 02's.
use Rattle.std.specs.Prelude.{ℕ, ◌≡◌, List, [], ◌∷◌, ◌++◌, length}
use Rattle.conflict.specs.Conflict.{Update, Smallest, Deep}
use Rattle.conflict.specs.Conflict.Update.{delete, insert}

infixl 60 ◌child◌ ◌below◌
-- names a to e are 1 to 5, the wildcard is 0
abbrev a : ℕ
a = 1

abbrev b : ℕ
b = 2

abbrev c : ℕ
c = 3

abbrev d : ℕ
d = 4

abbrev e : ℕ
e = 5

abbrev any : ℕ
any = 0

-- patterns: a, a/b and a//b are `root a`, `root a child b` and `root a below b`
abbrev root : ℕ → List ℕ
root l = 0 ∷ l ∷ []

abbrev ◌child◌ : List ℕ → ℕ → List ℕ
p child l = p ++ (1 ∷ l ∷ [])

abbrev ◌below◌ : List ℕ → ℕ → List ℕ
p below l = p ++ (2 ∷ l ∷ [])

-- trees: a node, and a root over one other
abbrev leaf : ℕ → List ℕ
leaf l = 0 ∷ l ∷ []

abbrev over : ℕ → ℕ → List ℕ
over l m = 0 ∷ l ∷ 0 ∷ m ∷ []

-- what the documents say of the deep verdict
pub data Said : Type 0 where
  nothing : Said
  says_yes : Said
  says_no : Said

pub record Example : Type 0 where
  pub read : List ℕ
  pub update : Update
  pub number : ℕ
  pub deep : Said

abbrev of : List ℕ → Update → ℕ → Example
of r u n = record { read = r; update = u; number = n; deep = nothing }

abbrev deeply : Said → List ℕ → Update → ℕ → Example
deeply s r u n = record { read = r; update = u; number = n; deep = s }

-- P1 to P15
abbrev pub examples : List Example
examples =
    of (root a below c) (insert (root a child b) (leaf c)) 2
    ∷ of (root a below d) (insert (root a child b) (leaf c)) 0
    ∷ of (root any child any child a) (insert (root any child b) (leaf c)) 0
    ∷ of (root a below c) (delete (root a child b)) 3
    ∷ of (root a child b) (delete (root a below b)) 2
    ∷ of (root a) (delete (root a below any)) 0
    ∷ deeply says_yes (root a child b) (delete (root a child b child c)) 0
    ∷ of (root a child b) (delete (root b child c)) 0
    ∷ of (root any child any) (insert (root any) (leaf e)) 1
    ∷ of (root a below c) (insert (root a child b) (over b c)) 2
    ∷ of (root a child b child c) (insert (root a child b) (over b c)) 0
    ∷ of (root a child c) (insert (root a below b) (leaf c)) 0
    ∷ of (root a child any child b) (delete (root a child b below any)) 3
    ∷ of (root a below b below c) (delete (root a below d below e)) 5
    ∷ deeply says_yes (root a child b) (insert (root a child b) (leaf c)) 0
    ∷ []

-- what an example claims
abbrev pub DeepClaim : Said → List ℕ → Update → Type 0
DeepClaim nothing r u = Unit {0}
DeepClaim says_yes r u = Deep r u
DeepClaim says_no r u = Deep r u → ⊥

pub record Claim (x : Example) : Type 0 where
  pub smallest : Smallest x.read x.update x.number
  pub deeper : DeepClaim x.deep x.read x.update

-- every example of a list holds
pub data Every : List Example → Type 0 where
  none : Every []
  more : {x : Example} {xs : List Example} → Claim x → Every xs → Every (x ∷ xs)

-- there are fifteen of them, and each holds
pub record Marked : Type 0 where
  pub fifteen : length examples ≡ 15
  pub every : Every examples

-- read a/b/c, insert e at a/b: no conflict, and an update point lies above a read node at best, so the deep verdict is no
abbrev pub point_above : Example
point_above = deeply says_no (root a child b child c) (insert (root a child b) (leaf e)) 0

-- the chain a, b, which document 01 names as a witness of P1
abbrev pub chain_of_two : List ℕ
chain_of_two = 0 ∷ a ∷ 0 ∷ b ∷ []

-- a(b(c), c): the read a//c of P4 has two equal permits, and its delete a/b removes one of them
abbrev pub equal_permits : List ℕ
equal_permits = 0 ∷ a ∷ 0 ∷ b ∷ 1 ∷ c ∷ 0 ∷ c ∷ []

abbrev pub read_p1 : List ℕ
read_p1 = root a below c

abbrev pub update_p1 : Update
update_p1 = insert (root a child b) (leaf c)

abbrev pub update_p4 : Update
update_p4 = delete (root a child b)
