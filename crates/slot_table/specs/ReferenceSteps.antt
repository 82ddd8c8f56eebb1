-- Inner: what the steps of references tell their seats, but for those on sides, and how their views are cut and joined.
use Rattle.std.specs.Prelude.{◌≡◌, ℕ, zero, suc, ◌+◌, ◌-◌, ◌<◌, ◌≤◌, eqb, cond, true}
use Rattle.std.specs.Prelude.{false, List, [], ◌∷◌, length, get_or, Bool, Option, Some, None}
use mathlib.Core.List.{IsPrefix}
use Rattle.atomic_table.specs.Table.{Step}
use Rattle.slot_model.specs.declared.event.Event.{Event}
use Rattle.slot_model.specs.declared.event.Event.TheVariants.{Retain, Release, Sole, Write, Detach}
use Rattle.slot_model.specs.History.{put}
use Rattle.slot_table.specs.declared.view.SeatView.{SeatView}
use Rattle.slot_table.specs.declared.view.Role.{Role}
use Rattle.slot_table.specs.declared.view.Role.TheVariants.{Share, Closing}
use Rattle.slot_table.specs.Addresses.{data_place, found_in}
use Rattle.slot_table.specs.Views.{Sat, Records, longer, shorter_of}

-- word j of the slot's words is found
abbrev pub Reads : Step ℕ → Sat → ℕ → Sat → Type 0
Reads st m n m' = (m' ≡ m) × ((j : ℕ) → st.word ≡ data_place m.0.layout m.0.slot j → j < length m.0.known
    → n ≡ get_or m.0.known j 0)

-- a reference finds the count, which is 1 where it was marked sole
abbrev pub asking : ℕ → SeatView → Event
asking n v = Sole v.slot (eqb n 1)

abbrev pub asked : ℕ → SeatView → SeatView
asked n v = record v { sole = eqb n 1 }

abbrev pub Asks : (List ℕ → List ℕ → Type 0) → Step ℕ → Sat → ℕ → Sat → Type 0
Asks fits st m n m' = (m.0.sole ≡ true → n ≡ 1) × Records fits m m' (asking n) (asked n)

-- which of the slot's words the step is on
abbrev pub word_in : ℕ → SeatView → ℕ
word_in i v = i - data_place v.layout v.slot 0

-- a bare reference stores a word
abbrev pub writing : ℕ → ℕ → SeatView → Event
writing i n v = Write v.slot (word_in i v) n

abbrev pub wrote : ℕ → ℕ → SeatView → SeatView
wrote i n v = record v { known = put v.known (word_in i v) n }

abbrev pub Writes : (List ℕ → List ℕ → Type 0) → Step ℕ → Sat → ℕ → Sat → Type 0
Writes fits st m n m' = Records fits m m' (writing st.word n) (wrote st.word n)

-- a reference takes in a credit, and what its share has seen
abbrev pub paid : SeatView → SeatView → SeatView
paid v w = record v {
  front = longer v.front w.front;
  told = shorter_of v.front w.front;
  credits = v.credits + w.credits;
}

-- The count grows. The two fronts that were joined before were of one history
abbrev pub retaining : SeatView → Event
retaining v = Retain v.slot

abbrev pub doubled : SeatView → SeatView
doubled v = record v { weight = 2; sole = false; bare = false }

abbrev pub Retains : (List ℕ → List ℕ → Type 0) → Step ℕ → Sat → ℕ → Sat → Type 0
Retains fits st m n m' = IsPrefix m.0.told m.0.front × Records fits m m' retaining doubled

-- a reference of weight 2 is cut in two
abbrev pub half : SeatView → SeatView
half v = record v { weight = 1; credits = v.credits - 1 }

abbrev pub other_half : SeatView → SeatView
other_half v = record v { weight = 1; places = []; free = []; credits = 1 }

-- A reference is given up. Where it was the last, as it is where it was marked sole, the seat closes the slot
abbrev pub left_role : ℕ → Role
left_role n = cond (eqb n 1) Closing Share

abbrev pub gone : Role → SeatView → SeatView
gone role v = record v { role = role; weight = 0; known = []; sole = false; bare = false; side = None; side_words = [] }

abbrev pub releasing : Bool → SeatView → Event
releasing last v = Release v.slot last

abbrev pub let_go : ℕ → SeatView → SeatView
let_go n v = gone (left_role n) v

abbrev pub letting_go : ℕ → SeatView → Event
letting_go n v = releasing (eqb n 1) v

abbrev pub Releases : (List ℕ → List ℕ → Type 0) → Step ℕ → Sat → ℕ → Sat → Type 0
Releases fits st m n m' = (m.0.sole ≡ true → n ≡ 1) × Records fits m m' (letting_go n) (let_go n)

-- a closed slot comes back to the seat, and its side with it
abbrev pub opened : ℕ → SeatView → SeatView
opened zero v = record v { role = Share; free = v.slot ∷ v.free }
opened (suc d) v = record v { role = Share; free = v.slot ∷ d ∷ v.free }

abbrev pub opening : ℕ → SeatView → Event
opening n v = Detach v.slot (found_in n)

abbrev pub GivesBack : (List ℕ → List ℕ → Type 0) → Step ℕ → Sat → ℕ → Sat → Type 0
GivesBack fits st m n m' = (n ≤ m.0.layout.slots) × Records fits m m' (opening n) (opened n)

-- What a seat's view becomes where its reference is given up: others are left, or the word n showed the side
abbrev pub LeftBy : (List ℕ → List ℕ → Type 0) → SeatView → SeatView → Option ℕ → Type 0
LeftBy fits v w None = Records fits (v, []) (w, []) (releasing false) (gone Share)
LeftBy fits v w (Some n) = (m : SeatView) × Records fits (v, []) (m, []) (releasing true) (gone Closing)
    × Records fits (m, []) (w, []) (opening n) (opened n)

-- the slots that are freed with slot x, where the word n showed its side, and by how the reference was given up
abbrev pub with_found : ℕ → ℕ → List ℕ
with_found x zero = x ∷ []
with_found x (suc d) = x ∷ d ∷ []

abbrev pub freed_by : ℕ → Option ℕ → List ℕ
freed_by x None = []
freed_by x (Some n) = with_found x n
