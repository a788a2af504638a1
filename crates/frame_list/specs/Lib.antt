-- Definitions for the contracts: reads into the window, what is listed of a card, how far it is read, its stream header.
pub mod Window
pub mod Listing
pub mod CardProgress
pub mod Opening
