-- What is found below a folder.
use Rattle.std.proofs.Common.{◌≡◌, ◌∙◌, arith, length, All, List, [], ◌∷◌, ◌++◌, IsTrue, true, Result, Ok, Err, IfOk, String, ap, inr, map, string_bytes}
use Rattle.std.proofs.lemmas.List.{append_assoc, map-append}
use Rattle.std.proofs.lemmas.List.Elements.{All-map, All-nil, All-push}
use Rattle.std.specs.Global.{Global, Vec}
use Rattle.fluent_serve.specs.Text.{Text}
use Rattle.ftl_files.specs.Files.{IsBelow, IsSourceBelow, StandFor, is_source_name}
use Rattle.ftl_files.specs.Listing.{AddsBelow, AreListedBelow, IsWalkBelow, listed_names, path_in, slash_after}
use Rattle.ftl_files.specs.declared.folder.Listing.{Listing}
use Rattle.ftl_files.specs.declared.listing.Walk.{Walk}

-- what is below a folder is below each that this one is below
pub deeper : (root folder name : Text) → IsBelow root folder → IsBelow folder name → IsBelow root name
deeper root folder name outer inner = record {
  rest = outer.rest ++ inner.rest;
  is = inner.is ∙ (ap (λ f. f ++ inner.rest) outer.is ∙ append_assoc root outer.rest inner.rest);
}

-- so is a path in it
path_below : (root folder name path : Text) → path ≡ path_in folder name → IsBelow root folder → IsBelow root path
path_below root folder name path is outer = deeper root folder path outer (record { rest = slash_after folder ++ name; is = is })

module _ (folder name : Text) (path : String Global) (old : Walk) (is : string_bytes path ≡ path_in folder name) where
  -- a folder is still to be listed
  pub folder_added : (folders : Vec (String Global)) → folders.items ≡ old.folders.items ++ path ∷ [] →
      AddsBelow folder old (record { folders = folders; listing = old.listing })
  folder_added folders more root below walk = record {
    found = walk.found;
    left = rw more (All-push (λ s. IsBelow root (string_bytes s)) old.folders.items path walk.left (path_below root folder name (string_bytes path) is below));
  }

  -- a source is found
  pub source_added : (sources : Vec (String Global)) → sources.items ≡ old.listing.sources.items ++ path ∷ [] → is_source_name (string_bytes path) ≡ true →
      AddsBelow folder old (record { folders = old.folders; listing = record { sources = sources; unlisted = old.listing.unlisted } })
  source_added sources more named root below walk = record {
    found = record {
      of_sources = rw more
          (All-push (λ s. IsSourceBelow root (string_bytes s)) old.listing.sources.items path walk.found.of_sources (named, path_below root folder name (string_bytes path) is below));
      of_unlisted = walk.found.of_unlisted;
    };
    left = walk.left;
  }

-- a folder can't be listed
pub unlisted_added : (folder : String Global) (start old : Walk) → AddsBelow (string_bytes folder) start old → (unlisted : Vec (String Global)) →
    unlisted.items ≡ old.listing.unlisted.items ++ folder ∷ [] →
    AddsBelow (string_bytes folder) start (record { folders = old.folders; listing = record { sources = old.listing.sources; unlisted = unlisted } })
unlisted_added folder start old so_far unlisted more root below walk =
    let then = so_far root below walk in
    record {
      found = record {
        of_sources = then.found.of_sources;
        of_unlisted = rw more (All-push (λ s. IsBelow root (string_bytes s)) old.listing.unlisted.items folder then.found.of_unlisted below);
      };
      left = then.left;
    }

-- and memory ran out for it
pub unlisted_kept : (folder : String Global) (start old : Walk) → AddsBelow (string_bytes folder) start old → (unlisted : Vec (String Global)) →
    unlisted.items ≡ old.listing.unlisted.items →
    AddsBelow (string_bytes folder) start (record { folders = old.folders; listing = record { sources = old.listing.sources; unlisted = unlisted } })
unlisted_kept folder start old so_far unlisted same root below walk =
    let then = so_far root below walk in
    record { found = record { of_sources = then.found.of_sources; of_unlisted = rw same then.found.of_unlisted }; left = then.left }

-- a folder stands for what is listed below it
pub stands_for_listed : (name : Text) (result : Listing) → AreListedBelow name result → StandFor name (listed_names result)
stands_for_listed name listing below = inr (record {
  sources = map string_bytes listing.sources.items;
  folders = map string_bytes listing.unlisted.items;
  are = map-append string_bytes listing.sources.items listing.unlisted.items;
  of_sources = All-map (IsSourceBelow name) string_bytes listing.sources.items below.of_sources;
  of_folders = All-map (IsBelow name) string_bytes listing.unlisted.items below.of_unlisted;
})

-- nothing is listed
none_found : (root : Text) (sources unlisted : List (String Global)) → map string_bytes (sources ++ unlisted) ≡ [] →
    All (λ s. IsSourceBelow root (string_bytes s)) sources × All (λ s. IsBelow root (string_bytes s)) unlisted
none_found root [] [] none = (All-nil (λ s. IsSourceBelow root (string_bytes s)), All-nil (λ s. IsBelow root (string_bytes s)))
none_found root [] (name ∷ names) none = absurd (omega (arith, ap length none))
none_found root (name ∷ names) unlisted none = absurd (omega (arith, ap length none))

pub none_listed : (root : Text) (listing : Listing) → listed_names listing ≡ [] → AreListedBelow root listing
none_listed root listing none =
    let found = none_found root listing.sources.items listing.unlisted.items none in
    record { of_sources = found.0; of_unlisted = found.1 }
