-- What is taken out of an object: its parts, as a row of the table makes it of them.
use Rattle.std.specs.Prelude.{◌≡◌, ◌≢◌, ℕ, List}
use denote.Ref.{Bor}
use Rattle.serde_json.specs.Data.{Data, Items, Members, no_members, member, object}
use Rattle.serde_json.specs.View.{view, items_view}
use Rattle.serde_json.specs.declared.value.Value.{Value}

-- ---- members at these keys alone, in this order

-- a key
abbrev pub Key : Type 0
Key = List ℕ

-- two members
abbrev pub two_members : Key → Key → Data → Data → Members
two_members k l d e = member k d (member l e no_members)

-- three members
abbrev pub three_members : Key → Key → Key → Data → Data → Data → Members
three_members k l m d e f = member k d (two_members l m e f)

-- four members
abbrev pub four_members : Key → Key → Key → Key → Data → Data → Data → Data → Members
four_members k l m n d e f g = member k d (three_members l m n e f g)

-- the object of two members
abbrev pub two : Key → Key → Data → Data → Data
two k l d e = object (two_members k l d e)

-- the object of three members
abbrev pub three : Key → Key → Key → Data → Data → Data → Data
three k l m d e f = object (three_members k l m d e f)

-- the object of four members
abbrev pub four : Key → Key → Key → Key → Data → Data → Data → Data → Data
four k l m n d e f g = object (four_members k l m n d e f g)

-- the object of five members
abbrev pub five : Key → Key → Key → Key → Key → Data → Data → Data → Data → Data → Data
five k l m n o d e f g h = object (member k d (four_members l m n o e f g h))

-- ---- the whole is what the row makes of parts

-- of two values
abbrev pub IsOfTwo : {R : Type 0} → (Data → Data → R) → R → Bor Value × Bor Value → Type 0
IsOfTwo row whole p = whole ≡ row (view p.0.now) (view p.1.now)

-- of three values
abbrev pub IsOfThree : {R : Type 0} → (Data → Data → Data → R) → R → Bor Value × Bor Value × Bor Value → Type 0
IsOfThree row whole p = whole ≡ row (view p.0.now) (view p.1.now) (view p.2.now)

-- of four values
abbrev pub IsOfFour : {R : Type 0} → (Data → Data → Data → Data → R) → R → Bor Value × Bor Value × Bor Value × Bor Value → Type 0
IsOfFour row whole p = whole ≡ row (view p.0.now) (view p.1.now) (view p.2.now) (view p.3.now)

-- of five values
abbrev pub IsOfFive : {R : Type 0} → (Data → Data → Data → Data → Data → R) → R → Bor Value × Bor Value × Bor Value × Bor Value × Bor Value → Type 0
IsOfFive row whole p = whole ≡ row (view p.0.now) (view p.1.now) (view p.2.now) (view p.3.now) (view p.4.now)

-- of a message's or a term's identifier, value, attributes and comment
abbrev pub IsOfEntry : (Data → Data → Items → Data → Data) → Data → Bor Value × Bor Value × Bor (List Value) × Bor Value → Type 0
IsOfEntry row whole p = whole ≡ row (view p.0.now) (view p.1.now) (items_view p.2.now) (view p.3.now)

-- ---- the whole is not what the row makes, whatever the parts are

-- of two parts
abbrev pub IsOfNoTwo : {A B R : Type 0} → (A → B → R) → R → Type 0
IsOfNoTwo {A} {B} row whole = (a : A) (b : B) → whole ≢ row a b

-- of three parts
abbrev pub IsOfNoThree : {A B C R : Type 0} → (A → B → C → R) → R → Type 0
IsOfNoThree {A} {B} {C} row whole = (a : A) (b : B) (c : C) → whole ≢ row a b c

-- of four parts
abbrev pub IsOfNoFour : {A B C D R : Type 0} → (A → B → C → D → R) → R → Type 0
IsOfNoFour {A} {B} {C} {D} row whole = (a : A) (b : B) (c : C) (d : D) → whole ≢ row a b c d

-- of five parts
abbrev pub IsOfNoFive : {A B C D E R : Type 0} → (A → B → C → D → E → R) → R → Type 0
IsOfNoFive {A} {B} {C} {D} {E} row whole = (a : A) (b : B) (c : C) (d : D) (e : E) → whole ≢ row a b c d e
