-- Worked maps of ids: which entry stays, and which notices come.
use Rattle.std.specs.Prelude.{◌≡◌, refl, ℕ, true, false, List, [], ◌∷◌, Some, None, codes}
use Rattle.fluent_grammar.specs.Words.{Text}
use Rattle.fluent_grammar.specs.Tree as t
use Rattle.fluent_errors.specs.Errors as e
use Rattle.fluent_meaning.specs.Ids.{Meaning, number_function, function, message, term, find, number_pair, with_ids, notices, entries_by_id}

abbrev one_text : Text → t.Elements
one_text s = t.text s t.no_elements

abbrev message_of : Text → Text → t.Message
message_of id value = record { id = id; value = Some (one_text value); attributes = []; comment = None }

abbrev term_of : Text → Text → t.Term
term_of id value = record { id = id; value = one_text value; attributes = []; comment = None }

-- functions of the caller are numbers here
abbrev Pairs : Type 0
Pairs = List (Text × Meaning ℕ)

abbrev hello : Pairs
hello = entries_by_id (t.message (message_of (codes "hello") (codes "Hi!")) ∷ t.junk (codes "x\n") ∷ [])

abbrev another_hello : Pairs
another_hello = entries_by_id (t.comment [] ∷ t.message (message_of (codes "hello") (codes "Another Hi!")) ∷ [])

-- ---- one id in two resources

the_first_stays : find (with_ids false (with_ids false [] hello) another_hello) (codes "hello") ≡ Some (message (message_of (codes "hello") (codes "Hi!")))
the_first_stays = refl

the_last_overrides : find (with_ids true (with_ids true [] hello) another_hello) (codes "hello") ≡ Some (message (message_of (codes "hello") (codes "Another Hi!")))
the_last_overrides = refl

the_first_has_no_notice : notices [] hello ≡ []
the_first_has_no_notice = refl

the_second_has_a_notice : notices (with_ids false [] hello) another_hello ≡ e.overriding e.message (codes "hello") ∷ []
the_second_has_a_notice = refl

-- ---- one id three times in one resource

thrice : Pairs
thrice = entries_by_id (t.message (message_of (codes "a") (codes "one")) ∷ t.term (term_of (codes "b") (codes "two")) ∷ t.message (message_of (codes "a") (codes "three")) ∷ t.message (message_of (codes "a") (codes "four")) ∷ [])

the_first_of_three_stays : with_ids false [] thrice ≡ (codes "a", message (message_of (codes "a") (codes "one"))) ∷ (codes "b", term (term_of (codes "b") (codes "two"))) ∷ []
unfolding thrice
the_first_of_three_stays = refl

the_last_of_three_overrides : with_ids true [] thrice ≡ (codes "a", message (message_of (codes "a") (codes "four"))) ∷ (codes "b", term (term_of (codes "b") (codes "two"))) ∷ []
unfolding thrice
the_last_of_three_overrides = refl

both_later_ones_have_a_notice : notices [] thrice ≡ e.overriding e.message (codes "a") ∷ e.overriding e.message (codes "a") ∷ []
unfolding thrice
both_later_ones_have_a_notice = refl

-- ---- a term and a message of one id: a term's id is its name without the minus

message_then_term : Pairs
message_then_term = entries_by_id (t.message (message_of (codes "a") (codes "one")) ∷ t.term (term_of (codes "a") (codes "two")) ∷ [])

term_then_message : Pairs
term_then_message = entries_by_id (t.term (term_of (codes "a") (codes "two")) ∷ t.message (message_of (codes "a") (codes "one")) ∷ [])

the_message_stays : with_ids false [] message_then_term ≡ (codes "a", message (message_of (codes "a") (codes "one"))) ∷ []
unfolding message_then_term
the_message_stays = refl

the_term_has_a_notice : notices [] message_then_term ≡ e.overriding e.term (codes "a") ∷ []
unfolding message_then_term
the_term_has_a_notice = refl

the_term_stays : with_ids false [] term_then_message ≡ (codes "a", term (term_of (codes "a") (codes "two"))) ∷ []
unfolding term_then_message
the_term_stays = refl

the_message_has_a_notice : notices [] term_then_message ≡ e.overriding e.message (codes "a") ∷ []
unfolding term_then_message
the_message_has_a_notice = refl

-- ---- a function under a message's id, and a message under a function's

the_function_has_a_notice : notices (with_ids false [] hello) ((codes "hello", function 7) ∷ []) ≡ e.overriding e.function (codes "hello") ∷ []
the_function_has_a_notice = refl

the_function_is_left_out : with_ids false (with_ids false [] hello) ((codes "hello", function 7) ∷ []) ≡ with_ids false [] hello
the_function_is_left_out = refl

the_message_under_a_function_has_a_notice : notices (with_ids false [] ((codes "hello", function 7) ∷ [])) hello ≡ e.overriding e.message (codes "hello") ∷ []
the_message_under_a_function_has_a_notice = refl

a_message_overrides_a_function : find (with_ids true (with_ids false [] ((codes "hello", function 7) ∷ [])) hello) (codes "hello") ≡ Some (message (message_of (codes "hello") (codes "Hi!")))
a_message_overrides_a_function = refl

-- ---- `NUMBER` there first

number_message : Pairs
number_message = entries_by_id (t.message (message_of (codes "NUMBER") (codes "x")) ∷ [])

a_message_named_number_has_a_notice : notices (number_pair ∷ []) number_message ≡ e.overriding e.message (codes "NUMBER") ∷ []
unfolding number_message
a_message_named_number_has_a_notice = refl

the_function_stays : find (with_ids false (number_pair ∷ []) number_message) (codes "NUMBER") ≡ Some number_function
unfolding number_message
the_function_stays = refl

number_behind_itself_has_a_notice : notices {F = ℕ} (number_pair ∷ []) (number_pair ∷ []) ≡ e.overriding e.function (codes "NUMBER") ∷ []
number_behind_itself_has_a_notice = refl

number_under_a_message_has_a_notice : notices (with_ids false [] number_message) (number_pair ∷ []) ≡ e.overriding e.function (codes "NUMBER") ∷ []
unfolding number_message
number_under_a_message_has_a_notice = refl

-- ---- other ids are in the order of their bytes, and nothing is told of them

capitals_come_first : with_ids false (number_pair ∷ []) hello ≡ number_pair ∷ (codes "hello", message (message_of (codes "hello") (codes "Hi!"))) ∷ []
capitals_come_first = refl

nothing_is_told : notices (number_pair ∷ []) hello ≡ []
nothing_is_told = refl
