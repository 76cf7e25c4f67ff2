mod Listings
mod Sealings
mod Texts
